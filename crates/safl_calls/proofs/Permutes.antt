-- Lists of word lists that have the same lists equally often are permutations of each other.
use Rattle.safl_calls.proofs.Common.{IsPermutation, Word}
use Rattle.std.proofs.Common.{◌≡◌, ℕ, suc, ◌<◌, List, [], ◌∷◌, length, get_or, Bool, true, false, cond, refl, ap, arith, ⊎_elim}
use Rattle.std.specs.Prelude.{◌==◌, ◌&&◌}
use Rattle.std.specs.List.{sum_by, remove}
use Rattle.std.proofs.lemmas.Bool.{eqb-true, eq-eqb, and_parts, and_from, cases_Bool, false≢true}
use Rattle.std.proofs.lemmas.List.Sums.{sum_by-cons}
use Rattle.std.proofs.lemmas.List.Sorted.{IsPermutation-refl, IsPermutation-sym, IsPermutation-cons, IsPermutation-remove, IsPermutation-trans, sum_by-IsPermutation}

abbrev same_word : Word → Word → Bool
same_word x y = (x.width == y.width) && (x.bits == y.bits)

same_word_refl : (x : Word) → same_word x x ≡ true
same_word_refl x = and_from (x.width == x.width) (x.bits == x.bits) (eq-eqb x.width x.width refl) (eq-eqb x.bits x.bits refl)

same_word_true : (x y : Word) → same_word x y ≡ true → x ≡ y
same_word_true x y e =
    let q = and_parts (x.width == y.width) (x.bits == y.bits) e in
    let a = eqb-true x.width y.width q.0 in
    let b = eqb-true x.bits y.bits q.1 in
    λ i. record { width = a i; bits = b i }

-- equal lists of words
pub same_words : List Word → List Word → Bool
same_words [] [] = true
same_words [] (y ∷ ys) = false
same_words (x ∷ xs) [] = false
same_words (x ∷ xs) (y ∷ ys) = same_word x y && same_words xs ys

same_words_refl : (xs : List Word) → same_words xs xs ≡ true
unfolding same_words
same_words_refl [] = refl
same_words_refl (x ∷ xs) = and_from (same_word x x) (same_words xs xs) (same_word_refl x) (same_words_refl xs)

same_words_true : (xs ys : List Word) → same_words xs ys ≡ true → xs ≡ ys
unfolding same_words
same_words_true [] [] e = refl
same_words_true [] (y ∷ ys) e = absurd (false≢true e)
same_words_true (x ∷ xs) [] e = absurd (false≢true e)
same_words_true (x ∷ xs) (y ∷ ys) e =
    let q = and_parts (same_word x y) (same_words xs ys) e in
    let a = same_word_true x y q.0 in
    let b = same_words_true xs ys q.1 in
    cc

-- how often a list stands in a list
abbrev pub is_words : List Word → List Word → ℕ
is_words ws xs = cond (same_words ws xs) 1 0

abbrev pub times : List Word → List (List Word) → ℕ
times ws xs = sum_by (is_words ws) xs

is_self : (ws : List Word) → is_words ws ws ≡ 1
is_self ws = ap (λ b. cond b 1 0) (same_words_refl ws)

-- where a list stands at least once, it has a place
found : (ws : List Word) (xs : List (List Word)) → 0 < times ws xs → (i : ℕ) × (i < length xs) × (ws ≡ get_or xs i ws)
found ws [] lt = absurd (omega arith)
found ws (x ∷ xs) lt =
    ⊎_elim
    (λ e. (0, omega arith, same_words_true ws x e))
    (λ e.
    let none : is_words ws x ≡ 0 = ap {B = ℕ} (λ b. cond b 1 0) e in
    let q = found ws xs (omega (arith, sum_by-cons (is_words ws) x xs, none)) in
    (suc q.0, omega (arith, q.1), q.2))
    (cases_Bool (same_words ws x))

pub counts_permute : (xs ys : List (List Word)) → ((ws : List Word) → times ws xs ≡ times ws ys) → IsPermutation xs ys
counts_permute [] [] h = IsPermutation-refl []
counts_permute [] (y ∷ ys) h =
    let one = is_self y in
    let e = h y in
    absurd (omega (arith, one, e, sum_by-cons (is_words y) y ys))
counts_permute (x ∷ xs) ys h =
    let one = is_self x in
    let e = h x in
    let q = found x ys (omega (arith, one, e, sum_by-cons (is_words x) x xs)) in
    let moved = IsPermutation-remove ys q.0 x q.1 q.2 in
    let rest = counts_permute xs (remove ys q.0) (λ ws.
    let a = h ws in
    let b = sum_by-cons (is_words ws) x xs in
    let c = sum_by-cons (is_words ws) x (remove ys q.0) in
    let d = sum_by-IsPermutation (is_words ws) ys (x ∷ remove ys q.0) moved in
    omega (arith, a, b, c, d)) in
    IsPermutation-trans (x ∷ xs) (x ∷ remove ys q.0) ys (IsPermutation-cons x xs (remove ys q.0) rest) (IsPermutation-sym ys (x ∷ remove ys q.0) moved)
