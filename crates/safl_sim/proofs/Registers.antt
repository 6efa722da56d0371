-- Registers that are shown and kept.
use Rattle.std.proofs.Common.{◌≡◌, inl, inr, ℕ, ◌+◌, ◌-◌, ◌*◌, ◌/◌, ◌%◌, ◌^◌, ◌<◌, ◌≤◌, List, length, set, Some, slice_get, slice_index, refl, sym, ap, subst, ◌∙◌, arith}
use Rattle.safl_sim.specs.declared.step.Register.{Register}
use Rattle.std.specs.Int.{bit_at}
use Rattle.std.proofs.lemmas.Bool.{cases_eq}
use Rattle.std.proofs.lemmas.List.{length-set}
use Rattle.safl_sim.specs.Marks.{marked, HasNone, NoneBetween, HasTaken}
use Rattle.safl_sim.specs.States.{AreOnce, AreLow}
use Rattle.safl_sim.specs.Steps.{Waits}
use Rattle.safl_sim.specs.Writes.{HasShown, HasKept, ShowsWaiting, KeepsOn}
use Rattle.safl_sim.proofs.Written.{index_here, index_other}
use Rattle.safl_sim.proofs.MarksByOne.{taken_upto, none_upto, none_past}
use Rattle.safl_sim.proofs.Nearing.{joined, joined_grows, joined_new, joined_only}
use Rattle.safl_sim.proofs.Updates.{mark_or_none, was_none}

-- two registers at one index are one
one_at : (regs : List Register) (j k : ℕ) (q r : Register) → slice_get regs j ≡ Some q → slice_get regs k ≡ Some r → j ≡ k → q ≡ r
one_at regs j k q r e f z = let a : Some q ≡ Some r = sym e ∙ ap (slice_get regs) z ∙ f in cc

-- ---- shown

-- after one more is shown, the narrow ones have at most 64 bits still
pub low_shown : (regs : List Register) (values numbers : List ℕ) (i : ℕ) (r : Register) → AreOnce regs → AreLow regs values numbers → slice_get regs i ≡ Some r → r.signal.0 < length values
    → AreLow regs (set values r.signal.0 (slice_index numbers i)) numbers
low_shown regs values numbers i r once low at inside = λ k q e narrow. (
  elim (cases_eq q.signal.0 r.signal.0) [
    | inl z ↦ subst (λ y. y < 2 ^ 64) (sym (ap (slice_index (set values r.signal.0 x)) z ∙ index_here values r.signal.0 x inside))
        (subst (λ j. slice_index numbers j < 2 ^ 64) (once k i q r e at z) (low k q e narrow).1)
    | inr n ↦ subst (λ y. y < 2 ^ 64) (sym (index_other values r.signal.0 x q.signal.0 n)) (low k q e narrow).0
  ],
  (low k q e narrow).1,
)
  where
    x : ℕ
    x = slice_index numbers i

pub shows_start : (regs : List Register) (now values waiting : List ℕ) → Waits regs now values waiting → ShowsWaiting regs now 0 values values waiting
shows_start regs now values waiting w = record {
  long = refl;
  below = λ k h. absurd (omega (arith, h));
  shown = w.shown;
  others = λ t h. refl;
  within = w.within;
}

pub shows_to : (regs : List Register) (now : List ℕ) (place place' : ℕ) (start values waiting : List ℕ) → ShowsWaiting regs now place start values waiting →
    ((k : ℕ) → k < place' → marked waiting k ≡ 0) → ShowsWaiting regs now place' start values waiting
shows_to regs now place place' start values waiting w below = record { long = w.long; below = below; shown = w.shown; others = w.others; within = w.within }

-- a word in which none waits
pub shows_none : (regs : List Register) (now : List ℕ) (place word : ℕ) (start values waiting : List ℕ) → ShowsWaiting regs now place start values waiting →
    word * 64 ≤ place → HasNone waiting word → ShowsWaiting regs now ((word + 1) * 64) start values waiting
shows_none regs now place word start values waiting w from none = shows_to regs now place ((word + 1) * 64) start values waiting w
    (λ k l. none_upto waiting 0 place word (λ j f h. w.below j h) from none k (omega arith) l)

-- words in which none waits
pub shows_skip : (regs : List Register) (now : List ℕ) (from to : ℕ) (start values waiting : List ℕ) → ShowsWaiting regs now (from * 64) start values waiting
    → NoneBetween waiting from to → ShowsWaiting regs now (to * 64) start values waiting
shows_skip regs now from to start values waiting w none = shows_to regs now (from * 64) (to * 64) start values waiting w
    (λ k l. none_past waiting 0 from to (λ j f h. w.below j h) none k (omega arith) l)

-- one more is shown
pub shows_step : (regs : List Register) (now : List ℕ) (place word i : ℕ) (r : Register) (start values values' waiting waiting' : List ℕ) → ShowsWaiting regs
    now place start values waiting → word * 64 ≤ place → HasTaken waiting waiting' word i
    → slice_get regs i ≡ Some r → r.signal.0 < length values → values' ≡ set values r.signal.0 (slice_index now r.signal.0) → ShowsWaiting regs now (i + 1) start values' waiting'
shows_step regs now place word i r start values values' waiting waiting' w from t here inside is =
    subst (λ l. ShowsWaiting regs now (i + 1) start l waiting') (sym is) (record {
      long = length-set values s x ∙ w.long;
      below = λ k h. taken_upto waiting waiting' 0 place word i (λ j f l. w.below j l) (omega arith) from t k (omega arith) (omega (arith, h));
      shown = λ k q e none. elim (cases_eq q.signal.0 s) [
        | inl z ↦ ap (slice_index (set values s x)) z ∙ index_here values s x inside ∙ ap (slice_index now) (sym z)
        | inr n ↦ index_other values s x q.signal.0 n ∙ w.shown k q e (sym (t.others k (λ z. n (ap (λ (y : Register). y.signal.0) (one_at regs k i q r e here z)))) ∙ none)
      ];
      others = λ u h. index_other values s x u (λ z. h i r here (sym z)) ∙ w.others u h;
      within = λ k e. elim (cases_eq k i) [
        | inl q ↦ absurd (let a = t.gone in let b : marked waiting' i ≡ 1 = ap (marked waiting') (sym q) ∙ e in omega (arith, a, b))
        | inr q ↦ w.within k (sym (t.others k q) ∙ e)
      ];
    })
  where
    s : ℕ
    s = r.signal.0

    x : ℕ
    x = slice_index now r.signal.0

pub none_waits : (regs : List Register) (now : List ℕ) (place : ℕ) (start values waiting : List ℕ) → ShowsWaiting regs now place start values waiting → length regs ≤ place → (k : ℕ)
    → marked waiting k ≡ 0
none_waits regs now place start values waiting w room k = elim (mark_or_none waiting k) [
  | inl e ↦ e
  | inr e ↦ w.below k (let a = w.within k e in omega (arith, a, room))
]

-- in the end all are shown
pub all_shown : (regs : List Register) (now : List ℕ) (place : ℕ) (start values waiting : List ℕ) → ShowsWaiting regs now place start values waiting → length
    regs ≤ place → HasShown regs now (length regs) start values
all_shown regs now place start values waiting w room = record {
  long = w.long;
  shown = λ k r h e. w.shown k r e (none_waits regs now place start values waiting w room k);
  others = w.others;
}

-- ---- kept

pub keeps_to : (first : ℕ) (regs : List Register) (values : List ℕ) (place place' : ℕ) (start was now marks waiting : List ℕ) → KeepsOn first regs
    values place start was now marks waiting → ((k : ℕ) → first ≤ k → k < place' → marked marks k ≡ 0)
    → KeepsOn first regs values place' start was now marks waiting
keeps_to first regs values place place' start was now marks waiting w below = record {
  long = w.long;
  below = below;
  low = w.low;
  within = w.within;
  kept = w.kept;
  others = w.others;
  waits = w.waits;
  waiters = w.waiters;
}

pub keeps_none : (first : ℕ) (regs : List Register) (values : List ℕ) (place word : ℕ) (start was now marks waiting : List ℕ) → KeepsOn first regs
    values place start was now marks waiting → word * 64 ≤ place → HasNone marks word
    → KeepsOn first regs values ((word + 1) * 64) start was now marks waiting
keeps_none first regs values place word start was now marks waiting w from none =
    keeps_to first regs values place ((word + 1) * 64) start was now marks waiting w (none_upto marks first place word w.below from none)

pub keeps_skip : (first : ℕ) (regs : List Register) (values : List ℕ) (from to : ℕ) (start was now marks waiting : List ℕ) → KeepsOn first regs values
    (from * 64) start was now marks waiting → NoneBetween marks from to
    → KeepsOn first regs values (to * 64) start was now marks waiting
keeps_skip first regs values from to start was now marks waiting w none = keeps_to first regs values (from * 64) (to * 64) start was now marks waiting w (none_past marks first from to w.below none)

-- one more is kept that waits
pub keeps_step : (first : ℕ) (regs : List Register) (values : List ℕ) (place word k : ℕ) (r : Register)
    (start was now now' marks marks' waiting : List ℕ) → KeepsOn first regs values place start was now marks waiting
    → first ≤ word * 64 → word * 64 ≤ place → HasTaken marks marks' word (first + k) → slice_get regs k ≡ Some r → r.signal.0 < length now
    → ((i j : ℕ) (r q : Register) → slice_get regs i ≡ Some r → slice_get regs j ≡ Some q → r.signal.0 ≡ q.signal.0 → r.next.0 ≡ q.next.0)
    → now' ≡ set now r.signal.0 (slice_index values r.next.0) → marked waiting k ≡ 1 → KeepsOn first regs values (first + k + 1) start was now' marks' waiting
keeps_step first regs values place word k r start was now now' marks marks' waiting w early from t here inside one is waits =
    subst (λ l. KeepsOn first regs values (first + k + 1) start was l marks' waiting) (sym is) (record {
      long = length-set now s x ∙ w.long;
      below = λ j f h. taken_upto marks marks' first place word (first + k) w.below early from t j f (omega (arith, h));
      low = λ j h. t.others j (λ z. absurd (omega (arith, z, h))) ∙ w.low j h;
      within = λ j e. elim (cases_eq j (first + k)) [
        | inl q ↦ absurd (let a = t.gone in let b : marked marks' (first + k) ≡ 1 = ap (marked marks') (sym q) ∙ e in omega (arith, a, b))
        | inr q ↦ w.within j (sym (t.others j q) ∙ e)
      ];
      kept = λ j q e none. elim (cases_eq q.signal.0 s) [
        | inl z ↦ ap (slice_index (set now s x)) z ∙ index_here now s x inside ∙ ap (slice_index values) (sym (one j k q r e here z))
        | inr n ↦ index_other now s x q.signal.0 n ∙ w.kept j q e (sym (t.others (first + j) (λ z. n (ap (λ (y : Register). y.signal.0) (one_at regs j k q r e here (omega (arith, z)))))) ∙ none)
      ];
      others = λ u h. index_other now s x u (λ z. h k r here (sym z)) ∙ w.others u h;
      waits = λ j e none. elim (cases_eq j k) [
        | inl q ↦ absurd (let a = ap (marked waiting) q in omega (arith, a, waits, none))
        | inr q ↦ t.others (first + j) (λ z. absurd (q (omega (arith, z)))) ∙ w.waits j e none
      ];
      waiters = w.waiters;
    })
  where
    s : ℕ
    s = r.signal.0

    x : ℕ
    x = slice_index values r.next.0

-- the marked registers of a word wait
module _ (first : ℕ) (regs : List Register) (values : List ℕ) (place word : ℕ) (start was now marks waiting : List ℕ) (early : first ≤ word)
    (w : KeepsOn (first * 64) regs values place start was now marks waiting) where
  abbrev waiting' : List ℕ
  waiting' = joined waiting (word - first) (slice_index marks word)

  -- such a register
  own : (k : ℕ) → k / 64 ≡ word - first → bit_at (slice_index marks word) (k % 64) ≡ 1 → marked marks (first * 64 + k) ≡ 1
  own k q e =
      let a : (first * 64 + k) / 64 ≡ word = omega (arith, q, early) in
      let b : (first * 64 + k) % 64 ≡ k % 64 = omega arith in
      ap (λ x. bit_at (slice_index marks x) ((first * 64 + k) % 64)) a ∙ ap (bit_at (slice_index marks word)) b ∙ e

  pub keeps_joined : KeepsOn (first * 64) regs values place start was now marks waiting'
  keeps_joined = record {
    long = w.long;
    below = w.below;
    low = w.low;
    within = w.within;
    kept = w.kept;
    others = w.others;
    waits = λ k e none. w.waits k e (was_none waiting waiting' k (λ j. joined_grows waiting (word - first) (slice_index marks word) j) none);
    waiters = λ k e. elim (joined_only waiting (word - first) (slice_index marks word) k e) [
      | inl h ↦ w.waiters k h
      | inr h ↦ (let a = w.within (first * 64 + k) (own k h.0 h.1) in omega (arith, a))
    ];
  }

  pub joined_waits : length regs ≤ length waiting * 64 → (k : ℕ) → (first * 64 + k) / 64 ≡ word → marked marks (first * 64 + k) ≡ 1 → marked waiting' k ≡ 1
  joined_waits room k q e =
      let inside : k / 64 < length waiting = (let a = w.within (first * 64 + k) e in omega (arith, a, room)) in
      let at : k / 64 ≡ word - first = omega (arith, q) in
      let b : (first * 64 + k) % 64 ≡ k % 64 = omega arith in
      joined_new waiting (word - first) (slice_index marks word) k (omega (arith, inside, at)) at
      (ap (bit_at (slice_index marks word)) (sym b) ∙ ap (λ x. bit_at (slice_index marks x) ((first * 64 + k) % 64)) (sym q) ∙ e)

-- in the end none is marked, and all are kept
module _ (first : ℕ) (regs : List Register) (values : List ℕ) (place : ℕ) (start was now marks waiting : List ℕ)
    (w : KeepsOn first regs values place start was now marks waiting) (room : first + length regs ≤ place) where
  pub none_marked : (k : ℕ) → first ≤ k → marked marks k ≡ 0
  none_marked k f = elim (mark_or_none marks k) [
    | inl e ↦ e
    | inr e ↦ w.below k f (let a = w.within k e in omega (arith, a, room))
  ]

  pub all_kept : HasKept regs values (length regs) start now
  all_kept = record {
    long = w.long;
    kept = λ k r h e. w.kept k r e (none_marked (first + k) (omega arith));
    others = w.others;
  }

  -- a register that does not wait was not marked before
  pub was_unmarked : (k : ℕ) → marked waiting k ≡ 0 → marked was (first + k) ≡ 0
  was_unmarked k none = elim (mark_or_none was (first + k)) [
    | inl e ↦ e
    | inr e ↦ absurd (let a = w.waits k e none in let b = none_marked (first + k) (omega arith) in omega (arith, a, b))
  ]
