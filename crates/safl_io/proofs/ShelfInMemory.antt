-- Calls of a shelf in memory.
use Rattle.std.proofs.Common.{◌≡◌, ◌≤◌, ◌⊎◌, ℕ, ◌+◌, ◌-◌, min, List, [], ◌++◌, length, take, drop, Option, Some, None, IsNone, MatchOption, inl, inr, refl, ap, sym, ◌∙◌, arith, length-drop}
use Rattle.std.proofs.lemmas.List.{take_at, take-append-drop, drop-drop, drop_all, append-nil, length-take-le}
use Rattle.safl_io.specs.Shelf.{Files, file_of, ReadsFrom, AppendsPart}

drop_past : (file : List ℕ) (at count : ℕ) → length file ≤ at → drop at file ≡ take count (drop (length file) file) ++ drop (at + count) file
drop_past file at count past =
    let nothing : drop (length file) file ≡ [] = drop_all (length file) file (omega arith) in
    let after : drop (at + count) file ≡ [] = drop_all (at + count) file (omega arith) in
    let none : (n : ℕ) → take {A = ℕ} n [] ≡ [] = λ n. grind arith in
    rw (nothing, after, none) (drop_all at file past)

drop_within : (file : List ℕ) (at count : ℕ) → drop at file ≡ take count (drop at file) ++ drop (at + count) file
drop_within file at count = rw (← drop-drop) (sym (take-append-drop count (drop at file)))

start_is : (at n start : ℕ) → start ≡ min at n → ((at ≤ n) × (start ≡ at)) ⊎ ((n ≤ at) × (start ≡ n))
start_is at n start e = grind arith

-- the bytes that were copied are those of the file from that place on
pub copied_reads : (file copied tail : List ℕ) (at start count room : ℕ) → start ≡ min at (length file) → count ≡ min room (length (drop start file))
    → copied ≡ take count (drop start file) → length (copied ++ tail) ≡ room → ReadsFrom at count (copied ++ tail) file
copied_reads file copied tail at start count room begins counts copies size =
    let rest : length (drop start file) ≡ length file - start = length-drop start file in
    let long : length copied ≡ count = ap length copies ∙ length-take-le count (drop start file) (omega arith) in
    let front : take count (copied ++ tail) ≡ copied = take_at copied tail count long in
    let whole : drop at file ≡ take count (drop start file) ++ drop (at + count) file =
    elim (start_is at (length file) start begins) [
      | inl w ↦ rw w.1 (drop_within file at count)
      | inr w ↦ rw w.1 (drop_past file at count w.0)
    ] in
    record {
      bytes = rw (front, copies) whole;
      end = λ some none. omega arith;
    }

-- nothing was added
pub AppendsPart-nothing : (name bytes : List ℕ) (old new : Files) → new ≡ old → AppendsPart name bytes old new
AppendsPart-nothing name bytes old new same =
    let at : (file : Option (List ℕ)) → MatchOption file (IsNone file) (λ had. (count : ℕ) × (file ≡ Some (had ++ take count bytes)))
    = elim [ None ↦ refl | Some had ↦ (0, ap Some (sym (append-nil had))) ] in
    rw same (record { file = at (file_of old name); others = λ other ne. refl })
