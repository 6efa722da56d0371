-- Readers that are near, and marks that are held apart.
use Rattle.std.proofs.Common.{◌≡◌, ◌⊎◌, inl, inr, ℕ, zero, suc, ◌+◌, ◌*◌, ◌/◌, ◌%◌, ◌^◌, ◌<◌, ◌≤◌, List, [], ◌∷◌, ◌++◌, length, set, Some, slice_get, slice_index, refl, sym, ap, subst, ◌∙◌, arith}
use Rattle.std.specs.Prelude.{max}
use Rattle.std.specs.Int.{w64, bit_at, bit_not, trailing_zeros}
use Rattle.std.specs.Int.RustNames.{bit_or}
use lib.Bits.{bit_and}
use Rattle.std.proofs.lemmas.Nat.Bits.{bit_at-zero, bit_at-lt, bit_at_or, bit_at_set_same, bit_at_set_other, same_from_bits}
use Rattle.std.proofs.lemmas.Option.{slice_get_within}
use Rattle.std.proofs.lemmas.Bool.{cases_eq, cases_lt}
use Rattle.std.proofs.lemmas.List.{length-set, length_push, set-set, set_past}
use Rattle.safl_word.proofs.Lists.{get_pushed}
use Rattle.safl_word.proofs.Naturals.{lower_or_last}
use Rattle.safl_sim.specs.declared.step.Group.{Group}
use Rattle.safl_sim.specs.declared.step.Near.{Near}
use Rattle.safl_sim.specs.declared.step.Register.{Register}
use Rattle.safl_sim.specs.declared.step.Step.{Step}
use Rattle.safl_sim.specs.Marks.{marked, holding, HasNone, HasTaken}
use Rattle.safl_sim.specs.Readers.{Reader, HasMarked, HasGiven}
use Rattle.safl_sim.specs.Nears.{IsNear, NearAt, NearOf, GroupOf}
use Rattle.safl_sim.proofs.Written.{index_here}
use Rattle.safl_sim.proofs.MarksByOne.{written_same, written_other, none_in, take_has}
use Rattle.safl_sim.proofs.Updates.{set_same}

-- ---- the greater of two bits

one_left : (x y : ℕ) → x ≡ 1 → y < 2 → max x y ≡ 1
one_left x zero e h = ap (λ z. max z 0) e
one_left x (suc zero) e h = ap (λ z. max z 1) e
one_left x (suc (suc y)) e h = absurd (omega (arith, h))

one_right : (x y : ℕ) → y ≡ 1 → x < 2 → max x y ≡ 1
one_right zero y e h = ap (max 0) e
one_right (suc zero) y e h = ap (max 1) e
one_right (suc (suc x)) y e h = absurd (omega (arith, h))

none_right : (x y : ℕ) → y ≡ 0 → x < 2 → max x y ≡ x
none_right zero y e h = ap (max 0) e
none_right (suc zero) y e h = ap (max 1) e
none_right (suc (suc x)) y e h = absurd (omega (arith, h))

none_left : (x y : ℕ) → x ≡ 0 → y < 2 → max x y ≡ y
none_left x zero e h = ap (λ z. max z 0) e
none_left x (suc zero) e h = ap (λ z. max z 1) e
none_left x (suc (suc y)) e h = absurd (omega (arith, h))

bit_or_none : (n i : ℕ) → (bit_at n i ≡ 0) ⊎ (bit_at n i ≡ 1)
bit_or_none n i = by (bit_at n i) (bit_at-lt n i) refl
  where
    by : (x : ℕ) → bit_at n i < 2 → bit_at n i ≡ x → (bit_at n i ≡ 0) ⊎ (bit_at n i ≡ 1)
    by zero h e = inl e
    by (suc x) h e = inr (omega (arith, h, e))

or_zero : (x : ℕ) → bit_or x 0 ≡ x
or_zero x = same_from_bits (bit_or x 0) x (λ i. bit_at_or x 0 i ∙ none_right (bit_at x i) (bit_at 0 i) (bit_at-zero i) (bit_at-lt x i))

-- ---- marks that are held apart

marked_holding : (marks : List ℕ) (w held k : ℕ) → w < length marks → k / 64 ≡ w → marked (holding marks w held) k ≡ bit_at held (k % 64)
marked_holding marks w held k h e = written_same marks w held k h e

marked_apart : (marks : List ℕ) (w held k : ℕ) → ¬ (k / 64 ≡ w) → marked (holding marks w held) k ≡ marked marks k
marked_apart marks w held k n = written_other marks w held k n

pub holding_all : (marks : List ℕ) (w : ℕ) → holding marks w (slice_index marks w) ≡ marks
holding_all marks w = set_same marks w (slice_index marks w) refl

pub no_marks : (marks : List ℕ) (w : ℕ) → w < length marks → HasNone (holding marks w 0) w
no_marks marks w h = none_in (holding marks w 0) w (index_here marks w 0 h)

pub holding_long : (marks : List ℕ) (w held : ℕ) → length (holding marks w held) ≡ length marks
holding_long marks w held = length-set marks w held

pub take_held_has : (w x : ℕ) → 0 < x → x < 2 ^ 64 → (marks : List ℕ) → w < length marks
    → HasTaken (holding marks w x) (holding marks w (bit_and x (bit_not w64 (1 * 2 ^ trailing_zeros w64 x % 2 ^ 64)))) w (w * 64 + trailing_zeros w64 x)
take_held_has w x some fits marks h =
    let b = trailing_zeros w64 x in
    let y = bit_and x (bit_not w64 (1 * 2 ^ b % 2 ^ 64)) in
    subst (λ l. HasTaken (set marks w x) l w (w * 64 + b)) (set-set marks w x y)
    (take_has (set marks w x) w x (let a = length-set marks w x in omega (arith, a, h)) (index_here marks w x h) some fits)

-- ---- the near readers of a step

pub record NearTo (readers : List ℕ) (from j to word mask first : ℕ) : Type 0 where
  pub least : from ≤ first
  pub most : first ≤ to
  pub early : (i k : ℕ) → from ≤ i → i < j → i < first → slice_get readers i ≡ Some k → k / 64 ≡ word
  pub all : (i k : ℕ) → from ≤ i → i < j → slice_get readers i ≡ Some k → k / 64 ≡ word → bit_at mask (k % 64) ≡ 1
  pub only : (b : ℕ) → b < 64 → ((i : ℕ) → from ≤ i → i < j → ¬ (slice_get readers i ≡ Some (word * 64 + b))) → bit_at mask b ≡ 0

pub near_none : (readers : List ℕ) (from to word : ℕ) → from ≤ to → NearTo readers from from to word 0 to
near_none readers from to word le = record {
  least = le;
  most = omega arith;
  early = λ i k f t l e. absurd (omega (arith, f, t));
  all = λ i k f t e. absurd (omega (arith, f, t));
  only = λ b h n. bit_at-zero b;
}

-- one more stands in the word
pub near_more : (readers : List ℕ) (from j to k word m first : ℕ) → NearTo readers from j to word m first → from ≤ j → slice_get readers j ≡ Some k → k / 64 ≡ word
    → NearTo readers from (j + 1) to word (bit_or m (1 * 2 ^ (k % 64) % 2 ^ 64)) first
near_more readers from j to k word m first w le e at =
    let low : k % 64 < 64 = omega arith in
    let x = bit_or m (1 * 2 ^ (k % 64) % 2 ^ 64) in
    record {
      least = w.least;
      most = w.most;
      early = λ i q f t l g. elim (lower_or_last i j t) [
        | inl h ↦ w.early i q f h l g
        | inr z ↦
            let s : Some q ≡ Some k = sym g ∙ ap (slice_get readers) z ∙ e in
            let one : q ≡ k = cc in
            ap (λ y. y / 64) one ∙ at
      ];
      all = λ i q f t g same. elim (lower_or_last i j t) [
        | inl h ↦ elim (cases_eq (q % 64) (k % 64)) [ inl z ↦ ap (bit_at x) z ∙ bit_at_set_same w64 m (k % 64) low | inr z ↦ bit_at_set_other w64 m (k % 64) low (q % 64) z ∙ w.all i q f h g same ]
        | inr z ↦
            let s : Some q ≡ Some k = sym g ∙ ap (slice_get readers) z ∙ e in
            let one : q ≡ k = cc in
            ap (λ y. bit_at x (y % 64)) one ∙ bit_at_set_same w64 m (k % 64) low
      ];
      only = λ b h n. elim (cases_eq b (k % 64)) [
        | inl z ↦ absurd (n j le (omega arith) (e ∙ ap Some (let r : k ≡ word * 64 + b = omega (arith, at, z) in r)))
        | inr z ↦ bit_at_set_other w64 m (k % 64) low b z ∙ w.only b h (λ i f t. n i f (omega (arith, t)))
      ];
    }

-- one more stands in another word: it is the first of the others, or one comes before it
pub near_other : (readers : List ℕ) (from j to k word m first first' : ℕ) → NearTo readers from j to word m first → from ≤ first' → first' ≤ first →
    first' ≤ j → slice_get readers j ≡ Some k → ¬ (k / 64 ≡ word)
    → NearTo readers from (j + 1) to word m first'
near_other readers from j to k word m first first' w least lower before e away = record {
  least = least;
  most = (let a = w.most in omega (arith, a, lower));
  early = λ i q f t l g. w.early i q f (omega (arith, l, before)) (omega (arith, l, lower)) g;
  all = λ i q f t g same. elim (lower_or_last i j t) [
    | inl h ↦ w.all i q f h g same
    | inr z ↦
        let s : Some q ≡ Some k = sym g ∙ ap (slice_get readers) z ∙ e in
        let one : q ≡ k = cc in
        absurd (away (ap (λ y. y / 64) (sym one) ∙ same))
  ];
  only = λ b h n. w.only b h (λ i f t. n i f (omega (arith, t)));
}

pub near_is : (readers : List ℕ) (from j to word m first : ℕ) → j ≡ to → NearTo readers from j to word m first → IsNear readers from to word (record { mask = m; first = first; end = to })
near_is readers from j to word m first z w = record {
  least = w.least;
  most = w.most;
  last = refl;
  early = λ i k f t e. w.early i k f (let a = w.most in omega (arith, t, a, z)) t e;
  all = λ i k f t e same. w.all i k f (omega (arith, t, z)) e same;
  only = λ b h n. w.only b h (λ i f t e. n i f (omega (arith, t, z)) e);
}

-- ---- a step whose wire is given its number

module _ (steps : List Step) (starts readers : List ℕ) (s : Step) (i x : ℕ) (values marks : List ℕ) (held : ℕ) where
  -- it is the one that was there
  pub near_same : slice_index values s.wire.0 ≡ x → HasGiven steps starts readers s.wire.0 x values (set values s.wire.0 x) (holding marks (i / 64) held) (holding marks (i / 64) (bit_or held 0))
  near_same e = subst (λ y. HasGiven steps starts readers s.wire.0 x values (set values s.wire.0 x) (holding marks (i / 64) held) (holding marks (i / 64) y)) (sym (or_zero held)) (record {
    is = refl;
    long = refl;
    grows = λ k h. h;
    told = λ k n r. absurd (n e);
    others = λ k n. refl;
  })

  -- or new: the readers are marked, or their bits are in the mask
  module _ (g : Near) (marks' : List ℕ) (inside : (i / 64) < length marks) (near : NearAt starts readers s.wire.0 (i / 64) g)
      (m : HasMarked steps readers g.first (slice_index starts (s.wire.0 + 1)) s.wire.0 (set values s.wire.0 x) marks marks') where
    inside' : (i / 64) < length marks'
    inside' = let a = m.long in omega (arith, a, inside)

    -- the bit of a reader among those held
    bit : (k : ℕ) → bit_at (bit_or held g.mask) (k % 64) ≡ max (bit_at held (k % 64)) (bit_at g.mask (k % 64))
    bit k = bit_at_or held g.mask (k % 64)

    held_now : (k : ℕ) → k / 64 ≡ (i / 64) → bit_at (bit_or held g.mask) (k % 64) ≡ 1 → marked (holding marks' (i / 64) (bit_or held g.mask)) k ≡ 1
    held_now k q e = marked_holding marks' (i / 64) (bit_or held g.mask) k inside' q ∙ e

    marked_now : (k : ℕ) → ¬ (k / 64 ≡ (i / 64)) → marked marks' k ≡ 1 → marked (holding marks' (i / 64) (bit_or held g.mask)) k ≡ 1
    marked_now k q e = marked_apart marks' (i / 64) (bit_or held g.mask) k q ∙ e

    grow : (k : ℕ) → marked (holding marks (i / 64) held) k ≡ 1 → marked (holding marks' (i / 64) (bit_or held g.mask)) k ≡ 1
    grow k e = elim (cases_eq (k / 64) (i / 64)) [
      | inl q ↦ held_now k q (bit k ∙ one_left (bit_at held (k % 64)) (bit_at g.mask (k % 64)) (sym (marked_holding marks (i / 64) held k inside q) ∙ e) (bit_at-lt g.mask (k % 64)))
      | inr q ↦ marked_now k q (m.grows k (sym (marked_apart marks (i / 64) held k q) ∙ e))
    ]

    none_set : (k : ℕ) → k / 64 ≡ (i / 64) → ¬ (Reader starts readers s.wire.0 k) → bit_at g.mask (k % 64) ≡ 0
    none_set k q n = near.only (k % 64) (omega arith) (λ j f t e. n (j, f, t, e ∙ ap Some (let r : i / 64 * 64 + k % 64 ≡ k = omega (arith, q) in r)))

    stay : (k : ℕ) → ¬ (Reader starts readers s.wire.0 k) → marked marks' k ≡ marked marks k
    stay k n = m.others k (λ j f t e. n (j, (let a = near.least in omega (arith, a, f)), t, e))

    pub near_new : HasGiven steps starts readers s.wire.0 x values (set values s.wire.0 x) (holding marks (i / 64) held) (holding marks' (i / 64) (bit_or held g.mask))
    near_new = record {
      is = refl;
      long = holding_long marks' (i / 64) (bit_or held g.mask) ∙ m.long ∙ sym (holding_long marks (i / 64) held);
      grows = grow;
      told = λ k n r. elim (cases_eq (k / 64) (i / 64)) [
        | inl q ↦ inl (held_now k q (bit k ∙ one_right (bit_at held (k % 64)) (bit_at g.mask (k % 64)) (near.all r.0 k r.1 r.2 r.3 q) (bit_at-lt held (k % 64))))
        | inr q ↦ elim (cases_lt r.0 g.first) [
          | inl l ↦ absurd (q (near.early r.0 k r.1 l r.3))
          | inr l ↦ elim (m.all r.0 k l r.2 r.3) [ inl z ↦ inl (marked_now k q z) | inr u ↦ inr u ]
        ]
      ];
      others = λ k n. elim (cases_eq (k / 64) (i / 64)) [
        | inl q ↦
            marked_holding marks' (i / 64) (bit_or held g.mask) k inside' q
            ∙ bit k ∙ none_right (bit_at held (k % 64)) (bit_at g.mask (k % 64)) (none_set k q n) (bit_at-lt held (k % 64))
            ∙ sym (marked_holding marks (i / 64) held k inside q)
        | inr q ↦ marked_apart marks' (i / 64) (bit_or held g.mask) k q ∙ stay k n ∙ sym (marked_apart marks (i / 64) held k q)
      ];
    }

-- ---- a group of readers

-- the marks with more of them in a word
abbrev pub joined : List ℕ → ℕ → ℕ → List ℕ
joined marks w x = set marks w (bit_or (slice_index marks w) x)

marked_joined : (marks : List ℕ) (w x k : ℕ) → w < length marks → k / 64 ≡ w → marked (joined marks w x) k ≡ max (marked marks k) (bit_at x (k % 64))
marked_joined marks w x k h e = written_same marks w (bit_or (slice_index marks w) x) k h e ∙ bit_at_or (slice_index marks w) x (k % 64) ∙ ap
    (λ y. max (bit_at (slice_index marks y) (k % 64)) (bit_at x (k % 64))) (sym e)

module _ (marks : List ℕ) (w x k : ℕ) where
  pub joined_grows : marked marks k ≡ 1 → marked (joined marks w x) k ≡ 1
  joined_grows e = elim (cases_eq (k / 64) w) [
    | inl q ↦ elim (cases_lt w (length marks)) [
      | inl h ↦ marked_joined marks w x k h q ∙ one_left (marked marks k) (bit_at x (k % 64)) e (bit_at-lt x (k % 64))
      | inr h ↦ ap (λ l. marked l k) (set_past marks w (bit_or (slice_index marks w) x) h) ∙ e
    ]
    | inr q ↦ written_other marks w (bit_or (slice_index marks w) x) k q ∙ e
  ]

  pub joined_new : w < length marks → k / 64 ≡ w → bit_at x (k % 64) ≡ 1 → marked (joined marks w x) k ≡ 1
  joined_new h q e = marked_joined marks w x k h q ∙ one_right (marked marks k) (bit_at x (k % 64)) e (bit_at-lt (slice_index marks (k / 64)) (k % 64))

  pub joined_only : marked (joined marks w x) k ≡ 1 → (marked marks k ≡ 1) ⊎ ((k / 64 ≡ w) × (bit_at x (k % 64) ≡ 1))
  joined_only e = elim (cases_eq (k / 64) w) [
    | inl q ↦ elim (bit_or_none x (k % 64)) [
      | inr b ↦ inr (q, b)
      | inl b ↦ elim (cases_lt w (length marks)) [
        | inl h ↦ inl (sym (marked_joined marks w x k h q ∙ none_right (marked marks k) (bit_at x (k % 64)) b (bit_at-lt (slice_index marks (k / 64)) (k % 64))) ∙ e)
        | inr h ↦ inl (ap (λ l. marked l k) (sym (set_past marks w (bit_or (slice_index marks w) x) h)) ∙ e)
      ]
    ]
    | inr q ↦ inl (sym (written_other marks w (bit_or (slice_index marks w) x) k q) ∙ e)
  ]

module _ (readers : List ℕ) (from to w : ℕ) (g : Near) (near : IsNear readers from to w g) (marks : List ℕ) where
  group_others : (k : ℕ) → ((j : ℕ) → from ≤ j → j < to → ¬ (slice_get readers j ≡ Some k)) → marked (joined marks w g.mask) k ≡ marked marks k
  group_others k n = elim (cases_eq (k / 64) w) [
    | inl q ↦ elim (cases_lt w (length marks)) [
      | inl h ↦
          marked_joined marks w g.mask k h q
          ∙ none_right (marked marks k) (bit_at g.mask (k % 64)) (near.only (k % 64) (omega arith) (λ j f t e. n j f t (e ∙ ap Some (let r : w * 64 + k % 64 ≡ k = omega (arith, q) in r))))
          (bit_at-lt (slice_index marks (k / 64)) (k % 64))
      | inr h ↦ ap (λ l. marked l k) (set_past marks w (bit_or (slice_index marks w) g.mask) h)
    ]
    | inr q ↦ written_other marks w (bit_or (slice_index marks w) g.mask) k q
  ]

  module _ (steps : List Step) (p : ℕ) (values marks' : List ℕ) (known : (j k : ℕ) → slice_get readers j ≡ Some k → k / 64 < length marks)
      (m : HasMarked steps readers g.first to p values (joined marks w g.mask) marks') where
    -- its readers are marked, and so are the others
    pub group_marked : HasMarked steps readers from to p values marks marks'
    group_marked = record {
      long = m.long ∙ length-set marks w (bit_or (slice_index marks w) g.mask);
      grows = λ k e. m.grows k (joined_grows marks w g.mask k e);
      all = λ j k f t e. elim (cases_lt j g.first) [
        | inl l ↦
            let a = near.early j k f l e in
            let h : w < length marks = (let b = known j k e in omega (arith, a, b)) in
            inl (m.grows k (joined_new marks w g.mask k h a (near.all j k f t e a)))
        | inr l ↦ m.all j k l t e
      ];
      others = λ k n. m.others k (λ j f t e. n j (let a = near.least in omega (arith, a, f)) t e) ∙ group_others k n;
    }

-- a place whose readers are marked, or that has its number already
pub given_new : (steps : List Step) (starts readers : List ℕ) (p x : ℕ) (values marks marks' : List ℕ) → HasMarked steps readers
    (slice_index starts p) (slice_index starts (p + 1)) p (set values p x) marks marks'
    → HasGiven steps starts readers p x values (set values p x) marks marks'
given_new steps starts readers p x values marks marks' m = record {
  is = refl;
  long = m.long;
  grows = m.grows;
  told = λ k n r. m.all r.0 k r.1 r.2 r.3;
  others = λ k n. m.others k (λ j f t e. n (j, f, t, e));
}

-- ---- near readers of each step, and a group for each register

-- of the first steps
pub record NearsTo (starts readers : List ℕ) (steps : List Step) (masks : List ℕ) (count : ℕ) : Type 0 where
  pub long : length masks ≡ count
  pub each : (k : ℕ) (s : Step) (mask : ℕ) → slice_get steps k ≡ Some s → slice_get masks k ≡ Some mask → NearOf starts readers k s mask

pub nears_more : (starts readers : List ℕ) (steps : List Step) (masks : List ℕ) (i : ℕ) (s : Step) (mask : ℕ) → NearsTo starts readers steps masks i → length steps ≡ i → NearOf starts readers i s mask
    → NearsTo starts readers (steps ++ s ∷ []) (masks ++ mask ∷ []) (i + 1)
nears_more starts readers steps masks i s mask w long is = record {
  long = (let a = length_push masks mask in let b = w.long in omega (arith, a, b));
  each = λ k t m e f. elim (get_pushed steps s t k e) [
    | inl q ↦ elim (get_pushed masks mask m k f) [
      | inl r ↦ w.each k t m q r
      | inr r ↦ absurd (let a = slice_get_within steps k t q in let b = r.0 in let d = w.long in omega (arith, a, b, d, long))
    ]
    | inr q ↦ elim (get_pushed masks mask m k f) [
      | inl r ↦ absurd (let a = slice_get_within masks k m r in let b = q.0 in let d = w.long in omega (arith, a, b, d, long))
      | inr r ↦ subst (λ y. NearOf starts readers k y m) (sym q.1) (subst (λ y. NearOf starts readers k s y) (sym r.1) (subst (λ j. NearOf starts readers j s mask) (sym (q.0 ∙ long)) is))
    ]
  ];
}

pub record GroupedTo (starts readers : List ℕ) (registers : List Register) (groups : List Group) (count : ℕ) : Type 0 where
  pub long : length groups ≡ count
  pub each : (k : ℕ) (r : Register) (g : Group) → slice_get registers k ≡ Some r → slice_get groups k ≡ Some g → GroupOf starts readers r g

pub groups_more : (starts readers : List ℕ) (registers : List Register) (groups : List Group) (i : ℕ) (r : Register) (g : Group) → GroupedTo starts
    readers registers groups i → slice_get registers i ≡ Some r → GroupOf starts readers r g
    → GroupedTo starts readers registers (groups ++ g ∷ []) (i + 1)
groups_more starts readers registers groups i r g w at is = record {
  long = (let a = length_push groups g in let b = w.long in omega (arith, a, b));
  each = λ k s h e f. elim (get_pushed groups g h k f) [
    | inl q ↦ w.each k s h e q
    | inr q ↦
        let same : Some s ≡ Some r = sym e ∙ ap (slice_get registers) (q.0 ∙ w.long) ∙ at in
        let one : s ≡ r = cc in
        subst (λ y. GroupOf starts readers s y) (sym q.1) (subst (λ y. GroupOf starts readers y g) (sym one) is)
  ];
}
