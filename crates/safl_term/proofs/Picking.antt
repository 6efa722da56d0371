-- Lemmas on the choice by a number.
use Rattle.safl_term.proofs.Common.{Word, pick, ◌≢◌}
use Rattle.std.proofs.Common.{◌≡◌, ℕ, zero, suc, refl, arith, inl, inr, ◌⊎◌}
use Rattle.safl_term.specs.Readiness.{Answer, Ready}

pub pick_two : {A B : Type 0} (n : ℕ) (x y : A) (x' y' : B) (P : A → B → Type 0) → P x x' → P y y' → P (pick n x y) (pick n x' y')
pick_two zero x y x' y' P h k = k
pick_two (suc zero) x y x' y' P h k = h
pick_two (suc (suc n)) x y x' y' P h k = k

pub pick_either : {A : Type 0} (n : ℕ) (x y : A) (P : A → Type 0) → P (pick n x y) → P x ⊎ P y
pick_either zero x y P h = inr h
pick_either (suc zero) x y P h = inl h
pick_either (suc (suc n)) x y P h = inr h

-- which of the two is picked
pub pick_cases : {A B : Type 0} (n : ℕ) (x y : A) (x' y' : B) (P : A → B → Type 0) (Q : Type 0) → (n ≡ 1 → P x x' → Q) → (n ≢ 1 → P y y' → Q) → P (pick n x y) (pick n x' y') → Q
pick_cases zero x y x' y' P Q h k p = k (omega arith) p
pick_cases (suc zero) x y x' y' P Q h k p = h refl p
pick_cases (suc (suc n)) x y x' y' P Q h k p = k (omega arith) p

-- a condition that takes the first branch, and one that skips it
abbrev pub Takes : Answer → Type 0
Takes q = (u : Word) × (q ≡ Ready u) × (u.bits ≡ 1)

abbrev pub Skips : Answer → Type 0
Skips q = (u : Word) × (q ≡ Ready u) × (u.bits ≢ 1)
