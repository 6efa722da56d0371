-- How a command ends, by what its parts answer.
use Rattle.std.proofs.Common.{◌≡◌, ℕ, List, [], ◌∷◌, ◌++◌, length, take, bytes_eq, if◌then◌else◌, Bool, true, false, Option, Some, None, refl, sym, ap, ◌∙◌, subst, inl, inr, arith}
use Rattle.std.specs.Prelude.{◌⊎◌, IsSomeAnd}
use Rattle.std.specs.Option.{option_or}
use Rattle.std.proofs.lemmas.List.{take_all}
use Rattle.std.proofs.lemmas.Slice.Eq.{bytes_eq-Decides}
use Rattle.safl_io.specs.Shelf.{Files, file_of, Leaves, LeavesOldOrPart}
use Rattle.safl_io.specs.Told.{TellsOn}
use Rattle.safl_io.specs.Sink.{SinkState, Sends, SendsPart}
use Rattle.safl_task.specs.Tasks.{Task}
use Rattle.safl_task.specs.Endings.{Outside, LeavesAll, LeavesParts, Left, Stops, refused, unread, long, unwritten, unprinted, unprobed, starved, Ended, Ends, gave}
use Rattle.safl_task.specs.declared.status.Status.{Status}

-- ---- files and sinks

-- a whole text is a prefix of itself
pub whole_part : (text : List ℕ) (old new : Option (List ℕ)) → TellsOn (Sends text) old new → TellsOn (SendsPart text) old new
whole_part text None new t = tt
whole_part text (Some a) None t = t
whole_part text (Some a) (Some b) t = (length text, t ∙ ap (λ (l : List ℕ). a ++ l) (sym (take_all (length text) text (omega arith))))

pub all_parts : (texts : Files) (old new : Option Files) → TellsOn (LeavesAll texts) old new → TellsOn (LeavesParts texts) old new
all_parts texts None new t = tt
all_parts texts (Some a) None t = t
all_parts texts (Some a) (Some b) t = λ name. go (file_of texts name) (file_of a name) (file_of b name) (t name)
  where
    go : (text had has : Option (List ℕ)) → has ≡ option_or text had → (has ≡ had) ⊎ IsSomeAnd text (λ x. (count : ℕ) × (has ≡ Some (take count x)))
    go None had has e = inl e
    go (Some x) had has e = inr (length x, e ∙ ap Some (sym (take_all (length x) x (omega arith))))

-- where no file has changed
pub same_all : (old new : Option Files) → new ≡ old → TellsOn (LeavesAll []) old new
same_all None new e = tt
same_all (Some a) None e = absurd (cc)
same_all (Some a) (Some b) e = let f : b ≡ a = cc in λ name. ap (λ (x : Files). file_of x name) f

pub same_parts : (texts : Files) (old new : Option Files) → new ≡ old → TellsOn (LeavesParts texts) old new
same_parts texts None new e = tt
same_parts texts (Some a) None e = absurd (cc)
same_parts texts (Some a) (Some b) e = let f : b ≡ a = cc in λ name. inl (ap (λ (x : Files). file_of x name) f)

-- where one file was written
pub leaves_all : (name text : List ℕ) (old new : Option Files) → TellsOn (Leaves name text) old new → TellsOn (LeavesAll ((name, text) ∷ [])) old new
leaves_all name text None new t = tt
leaves_all name text (Some a) None t = t
leaves_all name text (Some a) (Some b) t = λ other. go other (bytes_eq name other) refl
  where
    go : (other : List ℕ) (e : Bool) → bytes_eq name other ≡ e → file_of b other ≡ option_or (if e then Some text else None) (file_of a other)
    go other true h = subst (λ (x : List ℕ). file_of b x ≡ Some text) ((bytes_eq-Decides name other).0 h) t.file
    go other false h = t.others other (λ same. let hit : bytes_eq name other ≡ true = (bytes_eq-Decides name other).1 (sym same) in cc)

pub leaves_parts : (name text : List ℕ) (old new : Option Files) → TellsOn (LeavesOldOrPart name text) old new → TellsOn (LeavesParts ((name, text) ∷ [])) old new
leaves_parts name text None new t = tt
leaves_parts name text (Some a) None t = t
leaves_parts name text (Some a) (Some b) t = λ other. go other (bytes_eq name other) refl
  where
    go : (other : List ℕ) (e : Bool) → bytes_eq name other ≡ e → (file_of b other ≡ file_of a other) ⊎ IsSomeAnd (if e then Some text else None)
        (λ x. (count : ℕ) × (file_of b other ≡ Some (take count x)))
    go other true h =
        let same = (bytes_eq-Decides name other).0 h in
        subst (λ (x : List ℕ). (file_of b x ≡ file_of a x) ⊎ ((count : ℕ) × (file_of b x ≡ Some (take count text)))) same t.file
    go other false h = inl (t.others other (λ same. let hit : bytes_eq name other ≡ true = (bytes_eq-Decides name other).1 (sym same) in cc))

-- ---- why a command stops

module _ (t : Task) (Unprobed : List ℕ → Type 0) (old new : Outside) where
  -- what is left where a command stops
  pub stop_left : (s : Status) (line : List ℕ) → Stops t Unprobed old new s line → Left t old new
  stop_left _ _ (refused s line r h kept) = inl kept
  stop_left _ _ (unread i reached rose kept) = inl kept
  stop_left _ _ (long i reached h kept) = inl kept
  stop_left _ _ (unwritten name is rose began) = inr began
  stop_left _ _ (unprinted rose began) = inr began
  stop_left _ _ (unprobed line failed began) = inr began
  stop_left _ _ (starved left) = left

  pub ended_ends : (before after : SinkState) (s : Status) → Ended t old new s → after ≡ before → Ends t Unprobed old new before after s
  ended_ends before after s (g, h, is) same = subst (λ (x : Status). Ends t Unprobed old new before after x) is (gave g h same)
