-- Vectors whose items were written over.
use Rattle.std.proofs.Common.{◌≡◌, List, length, sym, ap, ◌∙◌}
use Rattle.std.proofs.lemmas.List.{with_items_is}
use Rattle.std.specs.declared.vec.Vec.{Vec}
use Rattle.std.specs.Vec.{with_items}

-- a list that was written over another one of the same length
pub refilled : {X Z : Type 0} (v : Vec X Z) (xs old : List X) → length xs ≡ length old → old ≡ v.items → (with_items v xs).items ≡ xs
refilled v xs old long is = with_items_is v xs (long ∙ (ap length is ∙ sym v.ok.0))

pub refilled_long : {X Z : Type 0} (v : Vec X Z) (xs : List X) → length (with_items v xs).items ≡ length v.items
refilled_long v xs = sym (with_items v xs).ok.0 ∙ v.ok.0
