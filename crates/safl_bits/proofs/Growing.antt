-- What stays as a graph grows.
use Rattle.safl_bits.proofs.Common.{Assignment, Gates, Grows, Holds, IsLiteral, Lit, append-nil, differ, nat_tests, on, on_number}
use Rattle.std.proofs.Common.{◌≡◌, ℕ, zero, suc, ◌+◌, ◌*◌, ◌/◌, ◌%◌, ◌≤◌, List, [], ◌∷◌, ◌++◌, length, Bool, true, false, not, cond, ◌&&◌, ◌||◌, ◌==◌}
use Rattle.std.proofs.Common.{Some, slice_get, refl, sym, ap, ◌∙◌, subst, arith, append_assoc}

pub grows_same : (g : Gates) → Grows g g 0
grows_same g = record { first = refl; more = []; is = sym (append-nil g.ands); some = omega arith; few = omega arith }

pub grows_on : {a b c : Gates} {i j : ℕ} → Grows a b i → Grows b c j → Grows a c (i + j)
grows_on {a} {b} {c} {i} {j} p q =
    record {
      first = q.first ∙ p.first;
      more = p.more ++ q.more;
      is = q.is ∙ ap (λ l. l ++ q.more) p.is ∙ append_assoc a.ands p.more q.more;
      some = (let e = p.some in let f = q.some in omega (arith, e, f));
      few = (let e = p.few in let f = q.few in omega (arith, e, f));
    }

pub grows_within : {a b : Gates} {i : ℕ} (n : ℕ) → Grows a b i → i ≤ n → Grows a b n
grows_within n p h = record { first = p.first; more = p.more; is = p.is; some = p.some; few = (let e = p.few in omega (arith, e, h)) }

front : (xs ys : List (Lit × Lit)) (k : ℕ) (p : Lit × Lit) → slice_get xs k ≡ Some p → slice_get (xs ++ ys) k ≡ Some p
front [] ys k p e = absurd (cc)
front (x ∷ xs) ys zero p e = e
front (x ∷ xs) ys (suc k) p e = front xs ys k p e

pub holds_before : {a b : Gates} {i : ℕ} {m : Assignment} → Grows a b i → Holds b m → Holds a m
holds_before {a} {b} {i} {m} p h =
    record {
      bottom = h.bottom;
      each = λ k q e. subst (λ f. m (f + k) ≡ (on m q.0 && on m q.1)) p.first (h.each k q (subst (λ l. slice_get l k ≡ Some q) (sym p.is) (front a.ands p.more k q e)));
    }

pub kept : {a b : Gates} {i : ℕ} {l : Lit} → Grows a b i → IsLiteral a l → IsLiteral b l
kept p h = let e = p.first in let f = p.some in omega (arith, e, f, h)

-- ---- single gates

pub even_on : (m : Assignment) (n : ℕ) → on_number m (2 * n) ≡ m n
even_on m n =
    let e : 2 * n % 2 ≡ 0 = omega arith in
    let f : 2 * n / 2 ≡ n = omega arith in
    let t : (2 * n % 2 == 0) ≡ true = grind (arith, nat_tests) in
    ap (λ b. cond b (m (2 * n / 2)) (not (m (2 * n / 2)))) t ∙ ap m f

last : (xs : List (Lit × Lit)) (p : Lit × Lit) → slice_get (xs ++ p ∷ []) (length xs) ≡ Some p
last [] p = refl
last (x ∷ xs) p = last xs p

pub neither : (x y : Bool) → not (not x && not y) ≡ (x || y)
neither true y = refl
neither false true = refl
neither false false = refl

pub one_of_two : (x y : Bool) → (not (x && y) && not (not x && not y)) ≡ differ x y
one_of_two true true = refl
one_of_two true false = refl
one_of_two false true = refl
one_of_two false false = refl

pub one_branch : (t x y : Bool) → (t && x || (not t && y)) ≡ cond t x y
one_branch true true y = refl
one_branch true false y = refl
one_branch false x y = refl
