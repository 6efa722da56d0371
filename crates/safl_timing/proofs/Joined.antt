-- Texts that are made of pieces.
use Rattle.std.proofs.Common.{◌≡◌, ℕ, List, ◌++◌, append_assoc, ap, ◌∙◌}

-- a piece, and the next one
pub more : (old a b x y : List ℕ) → x ≡ old ++ a → y ≡ x ++ b → y ≡ old ++ (a ++ b)
more old a b x y p q = q ∙ (ap (λ l. l ++ b) p ∙ append_assoc old a b)
