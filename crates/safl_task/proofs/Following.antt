-- What follows of every command, however it ends.
use Rattle.std.proofs.Common.{◌≡◌, ℕ, ◌<◌, ◌≤◌, List, [], ◌∷◌, ◌++◌, length, take, bytes_eq, if◌then◌else◌, Bool, true, false, Option, Some, None}
use Rattle.std.proofs.Common.{Contains, refl, sym, ap, ◌∙◌, subst, inl, inr, suc, arith}
use Rattle.std.specs.Prelude.{◌⊎◌, IfSome, IsSome, IsSomeAnd}
use Rattle.std.proofs.lemmas.Slice.Eq.{bytes_eq-Decides}
use Rattle.safl_io.specs.Reading.{HasFile}
use Rattle.safl_io.specs.Shelf.{Files, file_of}
use Rattle.safl_io.specs.Told.{TellsOn}
use Rattle.safl_io.specs.Sink.{SinkState, SendsPart}
use Rattle.safl_task.specs.Tasks.{Input, Given, Task, OfFile, end_of, files_of, status_if, AreContents, OfInputs}
use Rattle.safl_task.specs.Endings.{Outside, LeavesParts, Gave, Began, Left, Stops, refused, unread, long, unwritten, unprinted, unprobed, starved}
use Rattle.safl_task.specs.Endings.{Ends, gave, told, cut, may_give, Got, Tells, NoFault, Untouched}
use Rattle.safl_task.specs.declared.status.Status.{Status}
use Rattle.safl_task.specs.declared.status.Status.TheVariants as status
use Rattle.safl_task.proofs.Ending.{whole_part, all_parts, stop_left, same_parts}

-- ---- what holds of every command

-- if the status is one at which nothing may have been given, no file has changed and nothing was printed
abbrev pub KeepsAll : Status → Outside → Outside → Type 0
KeepsAll s old new = may_give s ≡ false → Untouched old new

-- each file that is no output file is as it was
abbrev pub KeepsOthers : Task → Outside → Outside → Type 0
KeepsOthers t old new =
    (name : List ℕ) → ¬ Contains t.outputs name → TellsOn (λ before after. file_of after name ≡ file_of before name) old.shelf.holds new.shelf.holds

-- If a result is promised for what the shelf tells, and nothing failed, the result came or memory ran out.
abbrev pub Completes : Task → (List ℕ → Type 0) → Outside → Outside → Status → Type 0
Completes t Unprobed old new s =
    IsSome old.shelf.holds → OfInputs old.shelf.holds t.inputs t.Promises → NoFault Unprobed old new → (s ≡ status.Ok) ⊎ (s ≡ status.NoMemory)

-- ---- what is left

module _ (t : Task) (Unprobed : List ℕ → Type 0) (old new : Outside) where
  gave_began : (g : Given) → Gave t old new g → Began t old new
  gave_began g h = record {
    whole = g;
    given = h.given;
    files = all_parts (files_of t.outputs g.texts) old.shelf.holds new.shelf.holds h.files;
    printed = whole_part g.printed old.out.sent new.out.sent h.printed;
  }

  -- at every status
  pub end_left : (before after : SinkState) (s : Status) → Ends t Unprobed old new before after s → Left t old new
  end_left before after _ (gave g h same) = inr (gave_began g h)
  end_left before after _ (told s line stops g) = stop_left t Unprobed old new s line stops
  end_left before after _ (cut s line stops p) = stop_left t Unprobed old new s line stops

  -- a refusal changes nothing
  end_gives : (g : Given) → may_give (status_if g.comes) ≡ true
  end_gives g = go g.comes
    where
      go : (b : Bool) → may_give (if b then status.Ok else status.NoResult) ≡ true
      go true = refl
      go false = refl

  stop_keeps : (s : Status) (line : List ℕ) → Stops t Unprobed old new s line → KeepsAll s old new
  stop_keeps _ _ (refused s line r h kept) k = kept
  stop_keeps _ _ (unread i reached rose kept) k = kept
  stop_keeps _ _ (long i reached h kept) k = kept
  stop_keeps _ _ (unwritten name is rose began) k = absurd (cc)
  stop_keeps _ _ (unprinted rose began) k = absurd (cc)
  stop_keeps _ _ (unprobed line failed began) k = absurd (cc)
  stop_keeps _ _ (starved left) k = absurd (cc)

  pub end_keeps : (before after : SinkState) (s : Status) → Ends t Unprobed old new before after s → KeepsAll s old new
  end_keeps before after _ (gave g h same) k = absurd (let yes = end_gives g in cc)
  end_keeps before after _ (told s line stops g) k = stop_keeps s line stops k
  end_keeps before after _ (cut s line stops p) k = absurd (cc)

  -- what is told is no result
  no_result : (s : Status) (line : List ℕ) → Stops t Unprobed old new s line → (s ≡ status.Ok) ⊎ (s ≡ status.NoResult) → ⊥
  no_result _ _ (refused s line r h kept) e = elim e [
    | inl a ↦ (let b : may_give s ≡ true = ap may_give a in cc)
    | inr a ↦ (let b : may_give s ≡ true = ap may_give a in cc)
  ]
  no_result _ _ (unread i reached rose kept) e = elim e [ inl a ↦ cc | inr a ↦ cc ]
  no_result _ _ (long i reached h kept) e = elim e [ inl a ↦ cc | inr a ↦ cc ]
  no_result _ _ (unwritten name is rose began) e = elim e [ inl a ↦ cc | inr a ↦ cc ]
  no_result _ _ (unprinted rose began) e = elim e [ inl a ↦ cc | inr a ↦ cc ]
  no_result _ _ (unprobed line failed began) e = elim e [ inl a ↦ cc | inr a ↦ cc ]
  no_result _ _ (starved left) e = elim e [ inl a ↦ cc | inr a ↦ cc ]

  -- at Ok all was given
  pub gave_at_ok : (before after : SinkState) (s : Status) → Ends t Unprobed old new before after s → s ≡ status.Ok
      → (g : Given) × Gave t old new g × (end_of g ≡ status.Ok)
  gave_at_ok before after _ (gave g h same) e = (g, h, e)
  gave_at_ok before after _ (told s line stops g) e = absurd (no_result s line stops (inl e))
  gave_at_ok before after _ (cut s line stops p) e = absurd (cc)

  got_part : (line : List ℕ) (before after : SinkState) → Got line before after → TellsOn (SendsPart line) before.sent after.sent
  got_part line before after g = elim g [ inl s ↦ whole_part line before.sent after.sent s | inr p ↦ p.1 ]

  stop_tells : (before after : SinkState) (s : Status) (line : List ℕ) → Stops t Unprobed old new s line → Got line before after → Tells t Unprobed old new before after s
  stop_tells before after status.Ok line stops g = absurd (no_result status.Ok line stops (inl refl))
  stop_tells before after status.NoResult line stops g = absurd (no_result status.NoResult line stops (inr refl))
  stop_tells before after status.NoMemory line stops g = (status.NoMemory, line, stops, got_part line before after g)
  stop_tells before after s line stops g = (line, stops, g)

  given_tells : (before after : SinkState) (b : Bool) → after ≡ before → Tells t Unprobed old new before after (if b then status.Ok else status.NoResult)
  given_tells before after true same = same
  given_tells before after false same = same

  -- what the sink of refusals got
  pub end_tells : (before after : SinkState) (s : Status) → Ends t Unprobed old new before after s → Tells t Unprobed old new before after s
  end_tells before after _ (gave g h same) = given_tells before after g.comes same
  end_tells before after _ (told s line stops g) = stop_tells before after s line stops g
  end_tells before after _ (cut s line stops p) = (s, line, stops, p)

  -- no other file changes
  other_name : (names texts : List (List ℕ)) (name : List ℕ) → ¬ Contains names name → file_of (files_of names texts) name ≡ None
  other_name [] texts name k = refl
  other_name (n ∷ names) [] name k = refl
  other_name (n ∷ names) (x ∷ texts) name k = go (other_name names texts name (λ h. k (suc h.0, (let a = h.1 in omega (arith, a)), h.2))) (bytes_eq n name) refl
    where
      go : file_of (files_of names texts) name ≡ None → (b : Bool) → bytes_eq n name ≡ b → (if b then Some x else file_of (files_of names texts) name) ≡ None
      go rest true h = absurd (k (0, omega arith, (bytes_eq-Decides n name).0 h))
      go rest false h = rest

  others_of : (texts : List (List ℕ)) (a b : Option Files) → TellsOn (LeavesParts (files_of t.outputs texts)) a b → (name : List ℕ) → ¬ Contains
      t.outputs name → TellsOn (λ x y. file_of y name ≡ file_of x name) a b
  others_of texts None b h name k = tt
  others_of texts (Some a) None h name k = h
  others_of texts (Some a) (Some b) h name k = go (file_of (files_of t.outputs texts) name) (other_name t.outputs texts name k) (h name)
    where
      go : (o : Option (List ℕ)) → o ≡ None → (file_of b name ≡ file_of a name) ⊎ IsSomeAnd o (λ text. (count : ℕ) × (file_of b name ≡ Some (take count text))) → file_of b name ≡ file_of a name
      go None e h = elim h [ inl same ↦ same | inr never ↦ absurd never ]
      go (Some x) e h = absurd (cc)

  pub left_others : Left t old new → KeepsOthers t old new
  left_others left name k = elim left [
    | inl kept ↦ others_of [] old.shelf.holds new.shelf.holds (same_parts (files_of t.outputs []) old.shelf.holds new.shelf.holds kept.files) name k
    | inr began ↦ others_of began.whole.texts old.shelf.holds new.shelf.holds began.files name k
  ]

-- ---- completeness

-- which content is refused, with which status and line; and what is given for a content
abbrev pub Refusing : Type 1
Refusing = List ℕ → Status → List ℕ → Type 0

abbrev pub Giving : Type 1
Giving = List ℕ → Given → Type 0

-- what of a promise every command keeps
pub record IsKept (t : Task) : Type 0 where
  pub refuses : (contents : List (List ℕ)) (s : Status) (line : List ℕ) → t.Promises contents → t.Refuses contents s line → ⊥
  pub gives : (contents : List (List ℕ)) (g : Given) → t.Promises contents → t.Gives contents g → g.comes ≡ true

same_content : (holds : Option Files) (name c d : List ℕ) → IsSome holds → IfSome holds (HasFile name c) → IfSome holds (HasFile name d) → c ≡ d
same_content None name c d none a b = absurd (cc)
same_content (Some files) name c d some a b = let e : Some c ≡ Some d = sym a ∙ b in cc

same_contents : (holds : Option Files) → IsSome holds → (inputs : List Input) (cs ds : List (List ℕ)) → AreContents holds inputs cs → AreContents holds inputs ds → cs ≡ ds
same_contents holds some [] [] [] a b = refl
same_contents holds some [] [] (d ∷ ds) a b = absurd b
same_contents holds some [] (c ∷ cs) ds a b = absurd a
same_contents holds some (i ∷ is) [] ds a b = absurd a
same_contents holds some (i ∷ is) (c ∷ cs) [] a b = absurd b
same_contents holds some (i ∷ is) (c ∷ cs) (d ∷ ds) a b =
    ap (λ (x : List ℕ). x ∷ cs) (same_content holds i.name c d some a.1 b.1) ∙ ap (λ (x : List (List ℕ)). d ∷ x) (same_contents holds some is cs ds a.2 b.2)

content_at : (holds : Option Files) (before : List Input) (i : Input) (after : List Input) (cs : List (List ℕ)) → AreContents holds
    (before ++ i ∷ after) cs → (c : List ℕ) × (length c ≤ i.limit) × IfSome holds (HasFile i.name c)
content_at holds [] i after [] a = absurd a
content_at holds [] i after (c ∷ cs) a = (c, a.0, a.1)
content_at holds (j ∷ before) i after [] a = absurd a
content_at holds (j ∷ before) i after (c ∷ cs) a = content_at holds before i after cs a.2

not_long : (holds : Option Files) (i : Input) (c : List ℕ) → IsSome holds → IfSome holds (HasFile i.name c) → length c ≤ i.limit → OfFile holds i.name (λ bytes. i.limit < length bytes) → ⊥
not_long None i c none h small h2 = absurd (cc)
not_long (Some files) i c some h small h2 = let n : i.limit < length c = subst (λ (o : Option (List ℕ)). IsSomeAnd o (λ bytes. i.limit < length bytes)) h h2 in omega (arith, n, small)

-- what was promised was told otherwise
module _ (t : Task) (Unprobed : List ℕ → Type 0) (keeps : IsKept t) (old new : Outside) (some : IsSome old.shelf.holds)
    (promise : OfInputs old.shelf.holds t.inputs t.Promises) (quiet : NoFault Unprobed old new) where
  comes : (g : Given) → OfInputs old.shelf.holds t.inputs (λ contents. t.Gives contents g) → g.comes ≡ true
  comes g h =
      let e : promise.0 ≡ h.0 = same_contents old.shelf.holds some t.inputs promise.0 h.0 promise.1 h.1 in
      keeps.gives h.0 g (subst (λ x. t.Promises x) e promise.2) h.2

  memory_alone : (s : Status) (line : List ℕ) → Stops t Unprobed old new s line → s ≡ status.NoMemory
  memory_alone _ _ (refused s line r h kept) = absurd (
      let e : promise.0 ≡ h.0 = same_contents old.shelf.holds some t.inputs promise.0 h.0 promise.1 h.1 in keeps.refuses h.0 s line (subst (λ x. t.Promises x) e promise.2) h.2
      )
  memory_alone _ _ (unread i reached rose kept) = absurd (quiet.reads rose)
  memory_alone _ _ (long i reached h kept) = absurd (
      let c = content_at old.shelf.holds reached.before i reached.after promise.0 (subst (λ x. AreContents old.shelf.holds x promise.0) reached.is promise.1) in
      not_long old.shelf.holds i c.0 some c.2 c.1 h
      )
  memory_alone _ _ (unwritten name is rose began) = absurd (quiet.writes rose)
  memory_alone _ _ (unprinted rose began) = absurd (quiet.prints rose)
  memory_alone _ _ (unprobed line failed began) = absurd (quiet.probes line failed)
  memory_alone _ _ (starved left) = refl

  pub end_complete : (before after : SinkState) (s : Status) → Ends t Unprobed old new before after s → (s ≡ status.Ok) ⊎ (s ≡ status.NoMemory)
  end_complete before after _ (gave g h same) = inl (ap (λ b. if b then status.Ok else status.NoResult) (comes g h.given))
  end_complete before after _ (told s line stops g) = inr (memory_alone s line stops)
  end_complete before after _ (cut s line stops p) = inr refl

pub end_completes : (t : Task) (Unprobed : List ℕ → Type 0) → IsKept t → (old new : Outside) (before after : SinkState) (s : Status) → Ends t Unprobed
    old new before after s → Completes t Unprobed old new s
end_completes t Unprobed keeps old new before after s ends = λ some promise quiet. end_complete t Unprobed keeps old new some promise quiet before after s ends
