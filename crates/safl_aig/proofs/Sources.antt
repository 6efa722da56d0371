-- The variables of inputs and registers.
use Rattle.safl_aig.proofs.Common.{Pins, lower_or_last, summed, summed_more}
use Rattle.std.proofs.Common.{◌≡◌, ◌⊎◌, inl, inr, ℕ, zero, suc, ◌+◌, ◌*◌, ◌<◌, ◌≤◌, List, [], ◌∷◌, ◌++◌, length, Bool, refl, sym, ap, ◌∙◌, subst, arith}
use Rattle.safl_net.specs.Netlist.{Netlist, Kind}
use Rattle.safl_aiger.specs.Literals.{Assignment, values}
use Rattle.safl_aiger.specs.Runs.{variable_bits}
use Rattle.safl_bits.proofs.Growing.{even_on}
use Rattle.safl_aig.specs.Tables.{lits_at, variable_lits, width_if, bits_before, source_lits}

pub variable_push : (first k : ℕ) → variable_lits first (k + 1) ≡ variable_lits first k ++ record { 0 = 2 * (first + k) } ∷ []
variable_push first zero = λ i. record { 0 = 2 * (let z : first ≡ first + 0 = omega arith in z) i } ∷ []
variable_push first (suc k) =
    ap (variable_lits first) (let z : suc k + 1 ≡ suc (k + 1) = omega arith in z) ∙ ap (λ l. record { 0 = 2 * first } ∷ l) (variable_push (suc first) k)
    ∙ (λ i. record { 0 = 2 * first } ∷ (variable_lits (suc first) k ++ record { 0 = 2 * (let z : suc first + k ≡ first + suc k = omega arith in z) i } ∷ []))

pub variable-append : (first a b : ℕ) → variable_lits first (a + b) ≡ variable_lits first a ++ variable_lits (first + a) b
variable-append first zero b = λ i. variable_lits ((let z : first ≡ first + 0 = omega arith in z) i) ((let z : 0 + b ≡ b = omega arith in z) i)
variable-append first (suc a) b =
    ap (variable_lits first) (let z : suc a + b ≡ suc (a + b) = omega arith in z) ∙ ap (λ l. record { 0 = 2 * first } ∷ l) (variable-append (suc first) a b)
    ∙ (λ i. record { 0 = 2 * first } ∷ (variable_lits (suc first) a ++ variable_lits ((let z : suc first + a ≡ first + suc a = omega arith in z) i) b))

pub variable_long : (first k : ℕ) → length (variable_lits first k) ≡ k
variable_long first zero = refl
variable_long first (suc k) = ap suc (variable_long (suc first) k)

-- what variables show
pub variable_values : (m : Assignment) (first k : ℕ) → values m (variable_lits first k) ≡ variable_bits m first k
variable_values m first zero = refl
variable_values m first (suc k) = λ i. even_on m first i ∷ variable_values m (suc first) k i

pub summed_le : (f : ℕ → ℕ) (k n : ℕ) → k ≤ n → summed f k ≤ summed f n
summed_le f k zero h = subst (λ j. summed f j ≤ 0) (let z : 0 ≡ k = omega (arith, h) in z) (omega arith)
summed_le f k (suc n) h = elim (lower k n h) [
  | inl l ↦ let e = summed_le f k n l in omega (arith, e)
  | inr q ↦ subst (λ j. summed f k ≤ summed f j) q (omega arith)
]
  where
    lower : (k n : ℕ) → k ≤ suc n → (k ≤ n) ⊎ (k ≡ suc n)
    lower zero n h = inl (omega arith)
    lower (suc k) zero h = inr (ap suc (let z : k ≡ 0 = omega (arith, h) in z))
    lower (suc k) (suc n) h = elim (lower k n (omega (arith, h))) [ inl l ↦ inl (omega (arith, l)) | inr q ↦ inr (ap suc q) ]

-- there is room for the bits of a signal
pub bits_step : (test : Kind → Bool) (n : Netlist) (i : ℕ) → i < length n.signals → bits_before test n i + width_if test n i ≤ bits_before test n (length n.signals)
bits_step test n i h = let e = summed_le (width_if test n) (i + 1) (length n.signals) (omega (arith, h)) in let f = summed_more (width_if test n) i in omega (arith, e, f)

-- a signal more in a table
pub push_old : (table : List Pins) (p : Pins) (s : ℕ) → s < length table → lits_at (table ++ p ∷ []) s ≡ lits_at table s
push_old [] p s h = absurd (omega (arith, h))
push_old (q ∷ table) p zero h = refl
push_old (q ∷ table) p (suc s) h = push_old table p s (omega (arith, h))

pub push_new : (table : List Pins) (p : Pins) → lits_at (table ++ p ∷ []) (length table) ≡ p.bits.items
push_new [] p = refl
push_new (q ∷ table) p = push_new table p

pub pushed_lits : (n : Netlist) (table new : List Pins) (p : Pins) (i : ℕ) → length table ≡ i → new ≡ table ++ p ∷ [] →
    ((s : ℕ) → s < i → lits_at table s ≡ source_lits n s) → p.bits.items ≡ source_lits n i → (s : ℕ) → s < i + 1 → lits_at new s ≡ source_lits n s
pushed_lits n table new p i l e h f s lt = elim (lower_or_last s i lt) [
  | inl u ↦ ap (λ t. lits_at t s) e ∙ push_old table p s (omega (arith, u, l)) ∙ h s u
  | inr u ↦ (λ j. lits_at (e j) ((u ∙ sym l) j)) ∙ push_new table p ∙ f ∙ ap (source_lits n) (sym u)
]
