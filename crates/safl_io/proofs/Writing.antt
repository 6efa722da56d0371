-- Writes of one file, one after another.
use Rattle.std.proofs.Common.{◌≡◌, ◌≤◌, ℕ, ◌+◌, ◌-◌, min, List, take, drop, Option, Some, None, OnSome, inr, ◌∙◌, arith}
use Rattle.std.proofs.Math.Seq.{take-add}
use Rattle.safl_io.specs.Told.{TellsOn}
use Rattle.safl_io.specs.Shelf.{Files, Leaves, LeavesOldOrPart, Appends, AppendsPart, CountsStray}
use Rattle.safl_io.proofs.Telling.{TellsOn-then}
use Rattle.safl_io.proofs.Pieces.{take-take}

-- the next piece of a text stands after the earlier ones
Leaves-append : (name text : List ℕ) (at end : ℕ) → at ≤ end → (a b c : Files) → Leaves name (take at text) a b → Appends name (take (end - at) (drop at text)) b c → Leaves name (take end text) a c
Leaves-append name text at end order a b c left added =
    let whole : at + (end - at) ≡ end = omega arith in
    record {
      file = rw (← whole, take-add) (rw left.file at added.file);
      others = λ other ne. added.others other ne ∙ left.others other ne;
    }

-- a part of the next piece stands after the earlier ones
Leaves-part : (name text : List ℕ) (at n : ℕ) (a b c : Files) → Leaves name (take at text) a b → AppendsPart name (take n (drop at text)) b c → LeavesOldOrPart name text a c
Leaves-part name text at n a b c left added =
    let part = rw left.file at added.file in
    record {
      file = inr (at + min part.0 n, rw (take-add, ← take-take) part.1);
      others = λ other ne. added.others other ne ∙ left.others other ne;
    }

pub TellsOn-append : (name text : List ℕ) (at end : ℕ) → at ≤ end → (a b c : Option Files) → TellsOn (Leaves name (take at text)) a b → TellsOn
    (Appends name (take (end - at) (drop at text))) b c → TellsOn (Leaves name (take end text)) a c
TellsOn-append name text at end order = TellsOn-then _ _ _ (Leaves-append name text at end order)

pub TellsOn-part : (name text : List ℕ) (at n : ℕ) (a b c : Option Files) → TellsOn (Leaves name (take at text)) a b → TellsOn
    (AppendsPart name (take n (drop at text))) b c → TellsOn (LeavesOldOrPart name text) a c
TellsOn-part name text at n = TellsOn-then _ _ _ (Leaves-part name text at n)

-- an append to a file that was left there names no stray
pub no_stray : (name text : List ℕ) (a b : Option Files) (before middle after : ℕ) → TellsOn (Leaves name text) a b → OnSome a (middle ≡ before) →
    CountsStray b name middle after → OnSome a (after ≡ before)
no_stray name text None b before middle after left same counts = tt
no_stray name text (Some a) None before middle after left same counts = absurd left
no_stray name text (Some a) (Some b) before middle after left same counts =
    let here = rw left.file at counts in here ∙ same
