-- Prefixes of a text.
use Rattle.std.proofs.Common.{◌≡◌, ℕ, zero, suc, min, List, [], ◌∷◌, take, refl, ap, arith}

-- a prefix of a prefix
pub take-take : {A : Type 0} (m n : ℕ) (xs : List A) → take m (take n xs) ≡ take (min m n) xs
take-take zero n xs = let e : min zero n ≡ zero = omega arith in rw e refl
take-take (suc m) zero xs = let e : min (suc m) zero ≡ zero = omega arith in rw e refl
take-take (suc m) (suc n) [] = let e : min (suc m) (suc n) ≡ suc (min m n) = omega arith in rw e refl
take-take (suc m) (suc n) (x ∷ xs) = let e : min (suc m) (suc n) ≡ suc (min m n) = omega arith in rw e (ap (λ rest. x ∷ rest) (take-take m n xs))
