-- Words of a width, and what is picked by a number.
use Rattle.std.proofs.Common.{Bool, List, [], Some, arith, false, map, refl, slice_get, suc, true, zero, ℕ, ◌∷◌, ◌≡◌}
use Rattle.safl_word.specs.Primitives.{where_true}
use Rattle.safl_word.specs.Words.{AreWords, IsWord, Word, pick}

pub word_eq : (a b : Word) → a.width ≡ b.width → a.bits ≡ b.bits → a ≡ b
word_eq a b p q = λ i. record { width = p i; bits = q i }

pub pick_other : {A : Type 0} (n : ℕ) (x y : A) → (n ≡ 1 → ⊥) → pick n x y ≡ y
pick_other zero x y h = refl
pick_other (suc zero) x y h = absurd (h refl)
pick_other (suc (suc n)) x y h = refl

pub pick_ap : {A B : Type 0} (f : A → B) (n : ℕ) (y z : A) → f (pick n y z) ≡ pick n (f y) (f z)
pick_ap f zero y z = refl
pick_ap f (suc zero) y z = refl
pick_ap f (suc (suc n)) y z = refl

pub are_words : (f : ℕ → Word) (ts : List ℕ) → ((i t : ℕ) → slice_get ts i ≡ Some t → IsWord (f t)) → AreWords (map f ts)
are_words f [] h = tt
are_words f (t ∷ ts) h = (h 0 t refl, are_words f ts (λ i x e. h (suc i) x e))

pub pick_one : {A : Type 0} (n : ℕ) (x y : A) → n ≡ 1 → pick n x y ≡ x
pick_one zero x y e = absurd (omega arith)
pick_one (suc zero) x y e = refl
pick_one (suc (suc n)) x y e = absurd (omega arith)

pub where_holds : (b : Bool) (m n : ℕ) → where_true b m ≡ Some n → b ≡ true
where_holds true m n e = refl
where_holds false m n e = absurd (cc)
