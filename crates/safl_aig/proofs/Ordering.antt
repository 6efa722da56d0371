-- Sums over the wires in their order.
use Rattle.safl_aig.proofs.Common.{Netlist, lower_or_last, signal_weight, summed, weight}
use Rattle.std.proofs.Common.{◌≡◌, ◌≢◌, inl, inr, ℕ, zero, suc, ◌+◌, ◌<◌, ◌≤◌, ◌==◌, List, [], ◌∷◌, length, true, false, cond, Some, slice_get, slice_index, refl, sym, ap, ◌∙◌, arith}
use Rattle.std.proofs.lemmas.Bool.Decides.{nat_tests}
use Rattle.safl_aig.proofs.Gathering.{summed_same}

-- the weight of the first wires of an order
abbrev pub ordered_weight : Netlist → List ℕ → ℕ → ℕ
ordered_weight n ws k = summed (λ j. signal_weight n (slice_index ws j)) k

-- the same numbers, but 0 at one place
abbrev without : ℕ → (ℕ → ℕ) → ℕ → ℕ
without t f s = cond (s == t) 0 (f s)

without_other : (t : ℕ) (f : ℕ → ℕ) (s : ℕ) → s ≢ t → f s ≡ without t f s
without_other t f s h = sym (ap (λ b. cond b 0 (f s)) (let e : (s == t) ≡ false = grind (arith, nat_tests) in e))

without_here : (t : ℕ) (f : ℕ → ℕ) → without t f t ≡ 0
without_here t f = ap (λ b. cond b 0 (f t)) (let e : (t == t) ≡ true = grind (arith, nat_tests) in e)

taken_out : (t : ℕ) (f : ℕ → ℕ) (k : ℕ) → t < k → summed (without t f) k + f t ≡ summed f k
taken_out t f zero h = absurd (omega (arith, h))
taken_out t f (suc k) h = elim (lower_or_last t k (let z : t < k + 1 = omega (arith, h) in z)) [
  | inl l ↦ let e = taken_out t f k l in let o = without_other t f k (λ q. omega (arith, q, l)) in omega (arith, e, o)
  | inr q ↦
      let e : summed f k ≡ summed (without t f) k = summed_same f (without t f) k (λ s l. without_other t f s (λ p. omega (arith, p, l, q))) in
      let o : without t f k ≡ 0 = ap (without t f) (sym q) ∙ without_here t f in
      let r : f t ≡ f k = ap f q in
      omega (arith, e, o, r)
]

-- a sum over different places is no more than the sum over all
pub distinct_sum : (f p : ℕ → ℕ) (k n : ℕ) → ((j : ℕ) → j < k → p j < n) → ((i j : ℕ) → i < k → j < k → p i ≡ p j → i ≡ j) → summed (λ j. f (p j)) k ≤ summed f n
distinct_sum f p zero n h d = omega arith
distinct_sum f p (suc k) n h d =
    let t = p k in
    let e : summed (λ j. f (p j)) k ≡ summed (λ j. without t f (p j)) k = summed_same (λ j. f (p j)) (λ j. without t f (p j)) k
    (λ j l. without_other t f (p j) (λ q. let z = d j k (omega (arith, l)) (omega arith) q in omega (arith, z, l))) in
    let i = distinct_sum (without t f) p k n (λ j l. h j (omega (arith, l))) (λ a b l r. d a b (omega (arith, l)) (omega (arith, r))) in
    let o = taken_out t f n (h k (omega arith)) in
    omega (arith, e, i, o)

pub get_index : (xs : List ℕ) (k : ℕ) → k < length xs → slice_get xs k ≡ Some (slice_index xs k)
get_index [] k h = absurd (omega (arith, h))
get_index (x ∷ xs) zero h = refl
get_index (x ∷ xs) (suc k) h = get_index xs k (omega (arith, h))

-- the wires of an order weigh no more than the net
pub ordered_light : (n : Netlist) (ws : List ℕ) (k : ℕ) → k ≤ length ws → ((i s : ℕ) → slice_get ws i ≡ Some s → s < length n.signals) →
    ((i j s : ℕ) → slice_get ws i ≡ Some s → slice_get ws j ≡ Some s → i ≡ j) → ordered_weight n ws k ≤ weight n
ordered_light n ws k l known once =
    let e = distinct_sum (signal_weight n) (slice_index ws) k (length n.signals) (λ j h. known j (slice_index ws j) (get_index ws j (omega (arith, h, l))))
    (λ i j h o q. once i j (slice_index ws i) (get_index ws i (omega (arith, h, l))) (get_index ws j (omega (arith, o, l)) ∙ ap (λ x. Some x) (sym q))) in
    omega (arith, e)
