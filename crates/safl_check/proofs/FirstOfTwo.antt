-- The first of two faults.
use Rattle.safl_check.proofs.Common.{Fault, or_else}
use Rattle.std.proofs.Common.{◌≡◌, Bool, true, false, Option, Some, None, refl, sym, ap, ◌∙◌}
use Rattle.safl_typing.specs.Walk.{needs}

pub first_of : (a b c : Option Fault) (f : Fault) → a ≡ or_else b c → Some f ≡ b → a ≡ Some f
first_of a b c f e h = e ∙ sym (ap (λ (o : Option Fault). or_else o c) h)

pub second_of : (a b c : Option Fault) → a ≡ or_else b c → None ≡ b → a ≡ c
second_of a b c e h = e ∙ sym (ap (λ (o : Option Fault). or_else o c) h)

pub none_both : (a b : Option Fault) → None ≡ or_else a b → (None ≡ a) × (None ≡ b)
none_both None b e = (refl, e)
none_both (Some f) b e = absurd cc

pub needs_none : (b : Bool) (f : Fault) → None ≡ needs b f → b ≡ true
needs_none true f e = refl
needs_none false f e = absurd cc
