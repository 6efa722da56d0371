-- One mark more, or one less.
use Rattle.std.proofs.Common.{◌≡◌, inl, inr, ℕ, zero, suc, max, ◌+◌, ◌*◌, ◌/◌, ◌%◌, ◌^◌, ◌<◌, ◌≤◌, List, length, set, Some, slice_get, slice_index, refl, sym, ap, subst, ◌∙◌, arith}
use Rattle.std.specs.Int.{w64, bit_at, bit_not, trailing_zeros}
use Rattle.std.specs.Int.RustNames.{bit_or}
use lib.Bits.{bit_and}
use Rattle.std.proofs.Math.Nat.{zero-max}
use Rattle.std.proofs.lemmas.Nat.Bits.{bit_at-zero, bit_at_or, bit_at-trailing_zeros, bit_at_set_same, bit_at_set_other, bit_at_clear_same, bit_at_clear_other}
use Rattle.std.proofs.lemmas.Bool.{cases_eq, cases_lt}
use Rattle.std.proofs.lemmas.List.{length-set}
use Rattle.safl_word.proofs.Naturals.{lower_or_last}
use Rattle.safl_sim.specs.Marks.{marked, HasMark, HasNone, NoneBetween, HasTaken, HasRange}
use Rattle.safl_sim.proofs.Written.{index_here, index_other}
use Rattle.safl_sim.specs.declared.step.Step.{Step}
use Rattle.safl_sim.specs.Readers.{Blind, HasMarked}

-- the mark of a step in a word that is written
pub written_same : (old : List ℕ) (w x k : ℕ) → w < length old → k / 64 ≡ w → marked (set old w x) k ≡ bit_at x (k % 64)
written_same old w x k h e = ap (λ y. bit_at (slice_index (set old w x) y) (k % 64)) e ∙ ap (λ y. bit_at y (k % 64)) (index_here old w x h)

pub written_other : (old : List ℕ) (w x k : ℕ) → ¬ (k / 64 ≡ w) → marked (set old w x) k ≡ marked old k
written_other old w x k n = ap (λ y. bit_at y (k % 64)) (index_other old w x (k / 64) n)

pub mark_has : (old : List ℕ) (i : ℕ) → i / 64 < length old → HasMark old (set old (i / 64) (bit_or (slice_index old (i / 64)) (1 * 2 ^ (i % 64) % 2 ^ 64))) i
mark_has old i h =
    let x = bit_or (slice_index old (i / 64)) (1 * 2 ^ (i % 64) % 2 ^ 64) in
    let low : i % 64 < 64 = omega arith in
    record {
      long = length-set old (i / 64) x;
      here = written_same old (i / 64) x i h refl ∙ bit_at_set_same w64 (slice_index old (i / 64)) (i % 64) low;
      others = λ k n. elim (cases_eq (k / 64) (i / 64)) [
        | inl q ↦ written_same old (i / 64) x k h q ∙ bit_at_set_other w64 (slice_index old (i / 64)) (i % 64) low (k % 64)
            (λ e. n (omega (arith, e, q))) ∙ ap (λ y. bit_at (slice_index old y) (k % 64)) (sym q)
        | inr q ↦ written_other old (i / 64) x k q
      ];
    }

pub none_in : (old : List ℕ) (w : ℕ) → slice_index old w ≡ 0 → HasNone old w
none_in old w e k q = ap (λ y. bit_at (slice_index old y) (k % 64)) q ∙ ap (λ y. bit_at y (k % 64)) e ∙ bit_at-zero (k % 64)

pub take_has : (old : List ℕ) (w left : ℕ) → w < length old → slice_index old w ≡ left → 0 < left → left < 2 ^ 64
    → HasTaken old (set old w (bit_and left (bit_not w64 (1 * 2 ^ trailing_zeros w64 left % 2 ^ 64)))) w (w * 64 + trailing_zeros w64 left)
take_has old w left h is some fits =
    let b = trailing_zeros w64 left in
    let x = bit_and left (bit_not w64 (1 * 2 ^ b % 2 ^ 64)) in
    let low = bit_at-trailing_zeros w64 left some fits in
    let under : b < 64 = low.0 in
    let at : (w * 64 + b) / 64 ≡ w = omega (arith, under) in
    let bit : (w * 64 + b) % 64 ≡ b = omega (arith, under) in
    record {
      long = length-set old w x;
      within = at;
      was = ap (λ y. bit_at (slice_index old y) ((w * 64 + b) % 64)) at ∙ ap (λ y. bit_at y ((w * 64 + b) % 64)) is ∙ ap (bit_at left) bit ∙ low.1;
      first = λ k q l. ap (λ y. bit_at (slice_index old y) (k % 64)) q ∙ ap (λ y. bit_at y (k % 64)) is ∙ low.2 (k % 64) (omega (arith, q, l));
      gone = written_same old w x (w * 64 + b) h at ∙ ap (bit_at x) bit ∙ bit_at_clear_same w64 left b under;
      others = λ k n. elim (cases_eq (k / 64) w) [
        | inl q ↦ written_same old w x k h q ∙ bit_at_clear_other w64 left b under (k % 64) (omega arith) (λ e. n (omega (arith, e, q))) ∙ ap
            (λ y. bit_at y (k % 64)) (sym is) ∙ ap (λ y. bit_at (slice_index old y) (k % 64)) (sym q)
        | inr q ↦ written_other old w x k q
      ];
    }

pub marked_none : (steps : List Step) (readers : List ℕ) (from p : ℕ) (values marks : List ℕ) → HasMarked steps readers from from p values marks marks
marked_none steps readers from p values marks = record {
  long = refl;
  grows = λ k e. e;
  all = λ j k f t e. absurd (omega (arith, f, t));
  others = λ k n. refl;
}

-- one reader more is marked
pub marked_step : (steps : List Step) (readers : List ℕ) (from j r p : ℕ) (values old marks new : List ℕ) → from ≤ j → HasMarked steps readers from j
    p values old marks → slice_get readers j ≡ Some r → HasMark marks new r
    → HasMarked steps readers from (j + 1) p values old new
marked_step steps readers from j r p values old marks new le w e m = record {
  long = m.long ∙ w.long;
  grows = λ k h. on k (w.grows k h);
  all = λ i k f t h. elim (lower_or_last i j t) [
    | inl l ↦ elim (w.all i k f l h) [ inl z ↦ inl (on k z) | inr u ↦ inr u ]
    | inr s ↦ inl (let z : Some k ≡ Some r = sym h ∙ ap (slice_get readers) s ∙ e in let q : k ≡ r = cc in ap (marked new) q ∙ m.here)
  ];
  others = λ k n. m.others k (λ q. n j le (omega arith) (e ∙ ap Some (sym q))) ∙ w.others k (λ i f t. n i f (omega (arith, t)));
}
  where
    on : (k : ℕ) → marked marks k ≡ 1 → marked new k ≡ 1
    on k h = elim (cases_eq k r) [ inl q ↦ ap (marked new) q ∙ m.here | inr q ↦ m.others k q ∙ h ]

-- or blind
pub blind_step : (steps : List Step) (readers : List ℕ) (from j r p : ℕ) (values old marks : List ℕ) → HasMarked steps readers from j p values old
    marks → slice_get readers j ≡ Some r → Blind steps values p r → HasMarked steps readers from (j + 1) p values old marks
blind_step steps readers from j r p values old marks w e blind = record {
  long = w.long;
  grows = w.grows;
  all = λ i k f t h. elim (lower_or_last i j t) [
    | inl l ↦ w.all i k f l h
    | inr s ↦ inr (let z : Some k ≡ Some r = sym h ∙ ap (slice_get readers) s ∙ e in let q : r ≡ k = cc in subst (λ y. Blind steps values p y) q blind)
  ];
  others = λ k n. w.others k (λ i f t. n i f (omega (arith, t)));
}

pub range_none : (from : ℕ) (marks : List ℕ) → HasRange from from marks marks
range_none from marks = record {
  long = refl;
  all = λ k f t. absurd (omega (arith, f, t));
  below = λ k h. refl;
  above = λ k h. refl;
}

-- one number more is marked
pub range_step : (from i : ℕ) (old marks new : List ℕ) → from ≤ i → HasRange from i old marks → HasMark marks new i → HasRange from (i + 1) old new
range_step from i old marks new le w m = record {
  long = m.long ∙ w.long;
  all = λ k f t. elim (lower_or_last k i t) [
    | inl l ↦ m.others k (λ q. omega (arith, q, l)) ∙ w.all k f l
    | inr q ↦ ap (marked new) q ∙ m.here
  ];
  below = λ k h. m.others k (λ q. omega (arith, q, h, le)) ∙ w.below k h;
  above = λ k h. m.others k (λ q. omega (arith, q, h)) ∙ w.above k (omega (arith, h));
}

-- where none is marked from a first number up to a place, the mark that is taken stands after it, and none up to that one is left
module _ (marks marks' : List ℕ) (first place word i : ℕ) (below : (k : ℕ) → first ≤ k → k < place → marked marks k ≡ 0) (early : first ≤ word * 64)
    (from : word * 64 ≤ place) (t : HasTaken marks marks' word i) where
  pub taken_after : place ≤ i
  taken_after = elim (cases_lt i place) [
    | inl h ↦ absurd (let z = t.within in let a = below i (omega (arith, z, early)) h in let b = t.was in omega (arith, a, b))
    | inr h ↦ h
  ]

  taken_before : (k : ℕ) → first ≤ k → k < i → marked marks k ≡ 0
  taken_before k f l = elim (cases_lt k place) [
    | inl h ↦ below k f h
    | inr h ↦ t.first k (let a = t.within in omega (arith, a, l, h, from)) l
  ]

  pub taken_upto : (k : ℕ) → first ≤ k → k ≤ i → marked marks' k ≡ 0
  taken_upto k f l = elim (cases_eq k i) [
    | inl q ↦ ap (marked marks') q ∙ t.gone
    | inr q ↦ t.others k q ∙ taken_before k f (omega (arith, l, q))
  ]

-- a word with no mark left
pub none_upto : (marks : List ℕ) (first place word : ℕ) → ((k : ℕ) → first ≤ k → k < place → marked marks k ≡ 0) → word * 64 ≤ place → HasNone marks
    word → (k : ℕ) → first ≤ k → k < (word + 1) * 64 → marked marks k ≡ 0
none_upto marks first place word below from none k f l = elim (cases_lt k place) [ inl h ↦ below k f h | inr h ↦ none k (omega (arith, h, l, from)) ]

-- words with no mark left
pub none_past : (marks : List ℕ) (first from to : ℕ) → ((k : ℕ) → first ≤ k → k < from * 64 → marked marks k ≡ 0) → NoneBetween marks from to → (k : ℕ) → first ≤ k → k < to * 64 → marked marks k ≡ 0
none_past marks first from to below none k f l = elim (cases_lt k (from * 64)) [ inl h ↦ below k f h | inr h ↦ none (k / 64) (omega (arith, h)) (omega (arith, l)) k refl ]

pub between_one : (marks : List ℕ) (from w : ℕ) → NoneBetween marks from w → slice_index marks w ≡ 0 → NoneBetween marks from (w + 1)
between_one marks from w none e v f l = elim (lower_or_last v w l) [ inl h ↦ none v f h | inr q ↦ none_in marks v (ap (slice_index marks) q ∙ e) ]

pub between_more : (marks : List ℕ) (from mid to : ℕ) → NoneBetween marks from mid → NoneBetween marks mid to → NoneBetween marks from to
between_more marks from mid to a b v f l = elim (cases_lt v mid) [ inl h ↦ a v f h | inr h ↦ b v h l ]

-- no bit of a sum of bits, none of either
max_none : (m n : ℕ) → max m n ≡ 0 → (m ≡ 0) × (n ≡ 0)
max_none zero n e = (refl, sym (zero-max n) ∙ e)
max_none (suc m) zero e = absurd (omega (arith, e))
max_none (suc m) (suc n) e = absurd (omega (arith, e))

or_none : (a b : ℕ) → ((i : ℕ) → bit_at (bit_or a b) i ≡ 0) → ((i : ℕ) → bit_at a i ≡ 0) × ((i : ℕ) → bit_at b i ≡ 0)
or_none a b h = (
  λ i. (max_none (bit_at a i) (bit_at b i) (sym (bit_at_or a b i) ∙ h i)).0,
  λ i. (max_none (bit_at a i) (bit_at b i) (sym (bit_at_or a b i) ∙ h i)).1,
)
