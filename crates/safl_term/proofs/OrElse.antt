-- The first of two options.
use Rattle.std.proofs.Common.{List, None, Option, Some, ap, inl, inr, is_some, refl, ◌||◌, ◌∙◌, ◌≡◌, ◌⊎◌}
use Rattle.std.specs.Option.{option_or}
use Rattle.std.proofs.lemmas.Bool.{false≢true, true≢false}
use Rattle.safl_word.specs.Words.{Word}
use Rattle.safl_term.specs.Readiness.{or_else, with_all}

pub or_else_none : {A : Type 0} (o : Option A) → or_else o None ≡ o
or_else_none None = refl
or_else_none (Some x) = refl

pub or_from : (o p : Option (List Word)) (ws : List Word) → or_else o p ≡ Some ws → (o ≡ Some ws) ⊎ (p ≡ Some ws)
or_from None p ws e = inr e
or_from (Some x) p ws e = inl e

pub either_some : {A : Type 0} (o p : Option A) → is_some (or_else o p) ≡ (is_some o || is_some p)
either_some None p = refl
either_some (Some x) p = refl

pub or_alike : {A B : Type 0} (a : Option A) (b : Option B) (c : Option A) (d : Option B) → is_some a ≡ is_some b → is_some c ≡ is_some d →
    is_some (or_else a c) ≡ is_some (or_else b d)
or_alike None None c d p q = q
or_alike None (Some y) c d p q = absurd (false≢true p)
or_alike (Some x) None c d p q = absurd (true≢false p)
or_alike (Some x) (Some y) c d p q = refl

pub or_else_assoc : {A : Type 0} (o p q : Option A) → or_else (or_else o p) q ≡ or_else o (or_else p q)
or_else_assoc None p q = refl
or_else_assoc (Some x) p q = refl

pub with_none : {A : Type 0} (o : Option (List Word)) (go : List Word → Option A) → ((vs : List Word) → go vs ≡ None) → with_all o None go ≡ None
with_none None go h = refl
with_none (Some vs) go h = h vs

pub neither : {A : Type 0} (o p : Option A) → o ≡ None → p ≡ None → or_else o p ≡ None
neither o p e f = ap (λ x. or_else x p) e ∙ f

pub or_is : {A : Type 0} (x y : Option A) → option_or x y ≡ or_else x y
or_is None y = refl
or_is (Some a) y = refl
