-- ANDs that are looked up by their operands.
use Rattle.safl_bits.proofs.Common.{Assignment, Lit, append-nil, on, on_number, pairs}
use Rattle.std.proofs.Common.{◌≡◌, ℕ, zero, suc, ◌+◌, ◌*◌, ◌<◌, List, [], ◌∷◌, ◌++◌, take, length, Some, Bool, true, false, ◌&&◌, slice_get, refl, sym, ap, subst, ◌∙◌, arith, rules}
use Rattle.std.specs.Prelude.{if◌then◌else◌}
use Rattle.std.specs.List.{list_any}
use Rattle.safl_aiger.specs.Circuits.{AreBelow}
use Rattle.safl_bits.specs.declared.graph.Operands.{Operands}
use Rattle.safl_bits.specs.Gates.{Gates, IsGates, IsLiteral, HasRoom, Grows, Holds}
use Rattle.safl_bits.proofs.Growing.{even_on}

abbrev pub eq : Operands → Operands → Bool
eq = (Rattle.safl_bits.specs.contracts.graph.OperandsPartialEq.TheImpl.eq-value).it

pub exact : (x y : Operands) → eq x y ≡ true → x ≡ y
exact x y e = search rules

-- the keys after one is put in
abbrev pub put : List Operands → Operands → List Operands
put old k = if list_any (eq k) old then old else (old ++ k ∷ [])

pairs_more : (xs ys : List Operands) → pairs (xs ++ ys) ≡ pairs xs ++ pairs ys
pairs_more [] ys = refl
pairs_more (x ∷ xs) ys = ap (λ l. (x.low, x.high) ∷ l) (pairs_more xs ys)

pub pair_at : (xs : List Operands) (i : ℕ) (k : Operands) → slice_get xs i ≡ Some k → slice_get (pairs xs) i ≡ Some (k.low, k.high)
pair_at [] i k e = absurd (cc)
pair_at (x ∷ xs) zero k e = let q : x ≡ k = cc in ap (λ (o : Operands). Some (o.low, o.high)) q
pair_at (x ∷ xs) (suc i) k e = pair_at xs i k e

abbrev pub gates : ℕ → List Operands → Gates
gates first ks = record { first = first; ands = pairs ks }

pub grows_put : (first : ℕ) (old new : List Operands) (k : Operands) → new ≡ put old k → Grows (gates first old) (gates first new) 1
grows_put first old new k e = by (list_any (eq k) old) e
  where
    by : (b : Bool) → new ≡ if b then old else (old ++ k ∷ []) → Grows (gates first old) (gates first new) 1
    by true r =
        let q : pairs new ≡ pairs old = ap pairs r in
        let l : length (pairs new) ≡ length (pairs old) = ap length q in
        record { first = refl; more = []; is = q ∙ sym (append-nil (pairs old)); some = omega (arith, l); few = omega (arith, l) }
    by false r =
        let q : pairs new ≡ pairs old ++ (k.low, k.high) ∷ [] = ap pairs r ∙ pairs_more old (k ∷ []) in
        let l : length (pairs new) ≡ length (pairs old) + 1 = ap length q ∙ one_more (pairs old) (k.low, k.high) in
        record { first = refl; more = (k.low, k.high) ∷ []; is = q; some = omega (arith, l); few = omega (arith, l) }
      where
        one_more : (xs : List (Lit × Lit)) (x : Lit × Lit) → length (xs ++ x ∷ []) ≡ length xs + 1
        one_more [] x = refl
        one_more (y ∷ ys) x = let h = one_more ys x in omega (arith, h)

below_more : (first : ℕ) (xs : List (Lit × Lit)) (p : Lit × Lit) → AreBelow first xs → p.0.0 < 2 * (first + length xs) → p.1.0 < 2 * (first + length xs) → AreBelow first (xs ++ p ∷ [])
below_more first [] p h a b zero q e = let z : p ≡ q = cc in subst (λ (r : Lit × Lit). (r.0.0 < 2 * (first + 0)) × (r.1.0 < 2 * (first + 0))) z (a, b)
below_more first [] p h a b (suc k) q e = absurd (cc)
below_more first (x ∷ xs) p h a b zero q e = h 0 q e
below_more first (x ∷ xs) p h a b (suc k) q e =
    let r = below_more (suc first) xs p (λ j o f. let g = h (suc j) o f in (omega (arith, g.0), omega (arith, g.1))) (omega (arith, a)) (omega (arith, b)) k q e in
    (omega (arith, r.0), omega (arith, r.1))

pub gates_put : (first : ℕ) (old new : List Operands) (k : Operands) → IsGates (gates first old) → IsLiteral (gates first old) k.low → IsLiteral (gates first old) k.high → HasRoom (gates first old) 1
    → new ≡ put old k → IsGates (gates first new)
gates_put first old new k g a b h e = by (list_any (eq k) old) e
  where
    by : (b : Bool) → new ≡ if b then old else (old ++ k ∷ []) → IsGates (gates first new)
    by true r = subst (λ ks. IsGates (gates first ks)) (sym r) g
    by false r =
        let grown = grows_put first old new k e in
        let f = grown.few in
        record {
          some = g.some;
          few = omega (arith, f, h);
          below = subst (AreBelow first) (sym (ap pairs r ∙ pairs_more old (k ∷ []))) (below_more first (pairs old) (k.low, k.high) g.below a b);
        }

pub value_put : (first : ℕ) (new : List Operands) (k o : Operands) (i : ℕ) (m : Assignment) → slice_get new i ≡ Some o → eq k o ≡ true → Holds (gates first new) m
    → on_number m (2 * (first + i)) ≡ (on m k.low && on m k.high)
value_put first new k o i m e q h =
    even_on m (first + i) ∙ h.each i (o.low, o.high) (pair_at new i o e) ∙ ap (λ (z : Operands). on m z.low && on m z.high) (sym (exact k o q))

taken : (xs : List Operands) (i : ℕ) (x : Operands) → slice_get xs i ≡ Some x → pairs (take (suc i) xs) ≡ pairs (take i xs) ++ (x.low, x.high) ∷ []
taken [] i x e = absurd (cc)
taken (y ∷ ys) zero x e = let q : y ≡ x = cc in ap (λ (o : Operands). (o.low, o.high) ∷ []) q
taken (y ∷ ys) (suc i) x e = ap (λ l. (y.low, y.high) ∷ l) (taken ys i x e)
