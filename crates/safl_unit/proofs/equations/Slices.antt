-- A part of a list.
use Rattle.std.proofs.Common.{◌≡◌, ℕ, zero, suc, ◌+◌, ◌-◌, ◌<◌, ◌≤◌, List, [], ◌∷◌, length, take, drop, length-drop, slice_get, refl, ap, ◌∙◌, arith}
use Rattle.std.proofs.lemmas.List.{length-take-le}
use Rattle.safl_word.proofs.Lists.{get_drop}

get_take : {A : Type 0} (m : ℕ) (xs : List A) (i : ℕ) → i < m → slice_get (take m xs) i ≡ slice_get xs i
get_take zero xs i l = absurd (omega (arith, l))
get_take (suc m) [] i l = refl
get_take (suc m) (x ∷ xs) zero l = refl
get_take (suc m) (x ∷ xs) (suc i) l = get_take m xs i (omega (arith, l))

pub part_length : {A : Type 0} (xs ys : List A) (k n : ℕ) → ys ≡ take ((k + n) - k) (drop k xs) → k + n ≤ length xs → length ys ≡ n
part_length xs ys k n e l =
    let d = length-drop k xs in
    let t = length-take-le ((k + n) - k) (drop k xs) (omega (arith, d, l)) in
    ap length e ∙ t ∙ omega arith

pub part_get : {A : Type 0} (xs ys : List A) (k n i : ℕ) → ys ≡ take ((k + n) - k) (drop k xs) → i < n → slice_get ys i ≡ slice_get xs (k + i)
part_get xs ys k n i e l = ap (λ zs. slice_get zs i) e ∙ get_take ((k + n) - k) (drop k xs) i (omega (arith, l)) ∙ get_drop xs k i
