use Rattle.std.proofs.Common.{◌≡◌, ◌<◌, ◌≤◌, ℕ, zero, suc, List, [], ◌∷◌, Bool, false, get_or, length, refl, sym, arith}
use Rattle.std.proofs.lemmas.Bool.{ltb-true, ltb-false}
use Rattle.safl_calls.specs.Labels.{label}
use Rattle.safl_labels.proofs.twins.is_public.Goals as goal

at : (ls : List Bool) (i : ℕ) (b : Bool) → i < length ls → b ≡ get_or ls i b → b ≡ label ls i
unfolding label
at [] i b e f = absurd (omega (arith, e))
at (l ∷ ls) zero b e f = f
at (l ∷ ls) (suc i) b e f = at ls i b (omega (arith, e)) f

past : (ls : List Bool) (i : ℕ) → length ls ≤ i → false ≡ label ls i
unfolding label
past [] i e = refl
past (l ∷ ls) zero e = absurd (omega (arith, e))
past (l ∷ ls) (suc i) e = past ls i (omega (arith, e))

pub returns-in-Some : goal.returns-in-Some
returns-in-Some c = at c.args.slots.now c.args.i c.in-Some.label.now (ltb-true _ _ (sym c.in-Some.ensures.lookup.0)) c.in-Some.ensures.lookup.1

pub returns-in-None : goal.returns-in-None
returns-in-None c = past c.args.slots.now c.args.i (ltb-false _ _ (sym c.in-None.ensures.lookup.0))
