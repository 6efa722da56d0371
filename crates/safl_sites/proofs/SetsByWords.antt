-- Sets of sites, word by word.
use Rattle.safl_sites.proofs.Common.{SiteSet, get_or-set_at, get_or-set_other, get_or_past}
use Rattle.std.proofs.Common.{◌≡◌, ℕ, zero, suc, ◌+◌, ◌*◌, ◌/◌, ◌%◌, ◌^◌, ◌<◌, ◌⊎◌, true, false, ◌==◌, List, [], ◌∷◌, length, get_or}
use Rattle.std.proofs.Common.{slice_set, bit_and, bit_or, min, max, refl, sym, ◌∙◌, ap, inl, inr, arith, eq-eqb, w64}
use Rattle.std.proofs.lemmas.Bool.{eqb-true, cases_eq, cases_lt, and_parts}
use Rattle.std.proofs.lemmas.Nat.{and_le_l}
use Rattle.std.proofs.lemmas.Nat.Bits.{bit_at-zero, bit_at-lt, bit_at-suc, bit_at_lowest, bit_at_and, bit_at_or, bit_at_set_same, bit_at_set_other, bit_at_clear_same, bit_at_clear_other}
use Rattle.std.specs.Int.{bit_at, bit_not}
use Rattle.std.specs.List.{list_all}
use Rattle.safl_sites.specs.SiteSets.{has, Has, Adds, IsCommon, Meets}

zero-not-one : {a : ℕ} → a ≡ 0 → a ≡ 1 → ⊥
zero-not-one p q = omega arith

zeros : (xs : List ℕ) → list_all (λ x. x == 0) xs ≡ true → (i : ℕ) → get_or xs i 0 ≡ 0
zeros [] e i = refl
zeros (x ∷ xs) e zero = eqb-true x 0 (and_parts (x == 0) (list_all (λ x. x == 0) xs) e).0
zeros (x ∷ xs) e (suc i) = zeros xs (and_parts (x == 0) (list_all (λ x. x == 0) xs) e).1 i

pub has-empty : (xs : List ℕ) → list_all (λ x. x == 0) xs ≡ true → (k : ℕ) → has (record { words = xs }) k ≡ false
unfolding has
has-empty xs e k = rw (zeros xs e (k / 64), bit_at-zero) refl

-- what a set has, by the bit of its word
pub bit_of_has : (r : SiteSet) (k : ℕ) → Has r k → bit_at (get_or r.words (k / 64) 0) (k % 64) ≡ 1
unfolding has
bit_of_has r k h = eqb-true _ _ h

pub has_of_bit : (r : SiteSet) (k : ℕ) → bit_at (get_or r.words (k / 64) 0) (k % 64) ≡ 1 → Has r k
unfolding has
has_of_bit r k h = eq-eqb _ _ h

either : (x y : ℕ) → max x y ≡ 1 → x < 2 → y < 2 → (x ≡ 1) ⊎ (y ≡ 1)
either x y e p q = elim (cases_eq x 1) [ inl f ↦ inl f | inr n ↦ inr (omega arith) ]

-- a set whose word has the bits of both words
pub has-union : (a b c : SiteSet) (j : ℕ) → get_or c.words (j / 64) 0 ≡ bit_or (get_or a.words (j / 64) 0) (get_or b.words (j / 64) 0) → Adds (Has a j) (Has c j) (Has b j)
has-union a b c j e =
    let x = get_or a.words (j / 64) 0 in
    let y = get_or b.words (j / 64) 0 in
    let m : bit_at (get_or c.words (j / 64) 0) (j % 64) ≡ max (bit_at x (j % 64)) (bit_at y (j % 64)) = rw e (bit_at_or x y (j % 64)) in
    record {
      splits = λ h. elim (either (bit_at x (j % 64)) (bit_at y (j % 64)) (sym m ∙ bit_of_has c j h) (bit_at-lt x (j % 64)) (bit_at-lt y (j % 64)))
          [ inl f ↦ inl (has_of_bit a j f) | inr f ↦ inr (has_of_bit b j f) ];
      stays = λ h. has_of_bit c j (omega (arith, m, bit_of_has a j h, bit_at-lt y (j % 64)));
      joins = λ h. has_of_bit c j (omega (arith, m, bit_of_has b j h, bit_at-lt x (j % 64)));
    }

same_place : (j k : ℕ) → j / 64 ≡ k / 64 → j % 64 ≡ k % 64 → j ≡ k
same_place j k e f = omega arith

-- a set with one bit more
pub has-insert : (ws : List ℕ) (k j : ℕ) → k / 64 < length ws → Adds (Has (record { words = ws }) j)
    (Has (record { words = slice_set ws (k / 64) (bit_or (get_or ws (k / 64) 0) (1 * 2 ^ (k % 64) % 2 ^ 64)) }) j) (j ≡ k)
has-insert ws k j within =
    let v = bit_or (get_or ws (k / 64) 0) (1 * 2 ^ (k % 64) % 2 ^ 64) in
    let a : SiteSet = record { words = ws } in
    let b : SiteSet = record { words = slice_set ws (k / 64) v } in
    let lower : k % 64 < 64 = omega arith in
    elim (cases_eq (j / 64) (k / 64)) [
      | inr n ↦
          let e : get_or (slice_set ws (k / 64) v) (j / 64) 0 ≡ get_or ws (j / 64) 0 = get_or-set_other ws (k / 64) (j / 64) v 0 n in
          record {
            splits = λ h. inl (has_of_bit a j (ap (λ w. bit_at w (j % 64)) (sym e) ∙ bit_of_has b j h));
            stays = λ h. has_of_bit b j (ap (λ w. bit_at w (j % 64)) e ∙ bit_of_has a j h);
            joins = λ h. absurd (n (ap (λ i. i / 64) h));
          }
      | inl s ↦
          let e : get_or (slice_set ws (k / 64) v) (j / 64) 0 ≡ v = get_or-set_at ws (k / 64) (j / 64) v 0 s within in
          elim (cases_eq (j % 64) (k % 64)) [
            | inl t ↦
                record {
                  splits = λ h. inr (same_place j k s t);
                  stays = λ h. has_of_bit b j (ap (λ w. bit_at w (j % 64)) e ∙ (ap (bit_at v) t ∙ bit_at_set_same w64 (get_or ws (k / 64) 0) (k % 64) lower));
                  joins = λ h. has_of_bit b j (ap (λ w. bit_at w (j % 64)) e ∙ (ap (bit_at v) t ∙ bit_at_set_same w64 (get_or ws (k / 64) 0) (k % 64) lower));
                }
            | inr t ↦
                let f : bit_at (get_or (slice_set ws (k / 64) v) (j / 64) 0) (j % 64) ≡ bit_at (get_or ws (j / 64) 0) (j % 64) =
                ap (λ w. bit_at w (j % 64)) e ∙ (bit_at_set_other w64 (get_or ws (k / 64) 0) (k % 64) lower (j % 64) t ∙ ap (λ i. bit_at (get_or ws i 0) (j % 64)) (sym s)) in
                record {
                  splits = λ h. inl (has_of_bit a j (sym f ∙ bit_of_has b j h));
                  stays = λ h. has_of_bit b j (f ∙ bit_of_has a j h);
                  joins = λ h. absurd (t (ap (λ i. i % 64) h));
                }
          ]
    ]

-- a number that is not 0 has a bit
pub some_bit : (k n : ℕ) → n < 2 ^ k → (n ≡ 0 → ⊥) → (j : ℕ) × (j < k) × (bit_at n j ≡ 1)
some_bit zero n low some = absurd (some (omega arith))
some_bit (suc k) n low some =
    elim (cases_eq (n % 2) 1) [
      | inl e ↦ (0, omega arith, bit_at_lowest n ∙ e)
      | inr e ↦
          let p : 2 ^ suc k ≡ 2 * 2 ^ k = grind arith in
          let (j, less, bit) = some_bit k (n / 2) (omega arith) (λ z. some (omega arith)) in
          (suc j, omega arith, bit_at-suc n j ∙ bit)
    ]

module _ (a b : SiteSet) (i e : ℕ) where
  abbrev word : ℕ
  word = bit_and (get_or a.words i 0) (get_or b.words i 0)

  both_bits : (j : ℕ) → bit_at word j ≡ 1 → (bit_at (get_or a.words i 0) j ≡ 1) × (bit_at (get_or b.words i 0) j ≡ 1)
  both_bits j h =
      let x = get_or a.words i 0 in
      let y = get_or b.words i 0 in
      (omega (arith, bit_at_and x y j, bit_at-lt x j, bit_at-lt y j), omega (arith, bit_at_and x y j, bit_at-lt x j, bit_at-lt y j))

  bits_both : (j : ℕ) → j / 64 ≡ i → Has a j → Has b j → bit_at word (j % 64) ≡ 1
  bits_both j at p q =
      let x = get_or a.words i 0 in
      let y = get_or b.words i 0 in
      let u : bit_at x (j % 64) ≡ 1 = ap (λ w. bit_at (get_or a.words w 0) (j % 64)) (sym at) ∙ bit_of_has a j p in
      let v : bit_at y (j % 64) ≡ 1 = ap (λ w. bit_at (get_or b.words w 0) (j % 64)) (sym at) ∙ bit_of_has b j q in
      bit_at_and x y (j % 64) ∙ (ap (λ n. min n (bit_at y (j % 64))) u ∙ ap (min 1) v)

  meets_bit : (j : ℕ) → j < 64 → bit_at word j ≡ 1 → (i ≡ e / 64 → j ≡ e % 64 → ⊥) → Meets a b e
  meets_bit j low bit other =
      let m = 64 * i + j in
      let p : m / 64 ≡ i = omega arith in
      let q : m % 64 ≡ j = omega arith in
      let bits = both_bits j bit in
      let hits : (r : SiteSet) → bit_at (get_or r.words i 0) j ≡ 1 → Has r m = λ r h. has_of_bit r m (rw (p, q) h) in
      record {
        other = m;
        differs = λ f. other (sym p ∙ ap (λ n. n / 64) (sym f)) (sym q ∙ ap (λ n. n % 64) (sym f));
        first = hits a bits.0;
        second = hits b bits.1;
      }

  below : get_or a.words i 0 < 2 ^ 64 → word < 2 ^ 64
  below h = omega (arith, and_le_l (get_or a.words i 0) (get_or b.words i 0))

  -- a word of both sets that is not 0 has a number of both, at another word than that of e
  pub word_meets : get_or a.words i 0 < 2 ^ 64 → (i ≡ e / 64 → ⊥) → (word ≡ 0 → ⊥) → Meets a b e
  word_meets low apart some =
      let (j, less, bit) = some_bit 64 word (below low) some in
      meets_bit j less bit (λ p q. apart p)

  -- and so has one that is not 0 without the bit of e
  pub word_meets_beside : get_or a.words i 0 < 2 ^ 64 → (bit_and word (bit_not w64 (1 * 2 ^ (e % 64) % 2 ^ 64)) ≡ 0 → ⊥) → Meets a b e
  word_meets_beside low some =
      let mask = bit_not w64 (1 * 2 ^ (e % 64) % 2 ^ 64) in
      let lower : e % 64 < 64 = omega arith in
      let small : bit_and word mask < 2 ^ 64 = omega (arith, and_le_l word mask, below low) in
      let (j, less, bit) = some_bit 64 (bit_and word mask) small some in
      let apart : j ≡ e % 64 → ⊥ = λ f. zero-not-one (bit_at_clear_same w64 word (e % 64) lower) (ap (bit_at (bit_and word mask)) (sym f) ∙ bit) in
      meets_bit j less (sym (bit_at_clear_other w64 word (e % 64) lower j less apart) ∙ bit) (λ p q. apart q)

  pub word_misses : (j : ℕ) → j / 64 ≡ i → Has a j → Has b j → word ≡ 0 → e ≡ j
  word_misses j at p q none = absurd (zero-not-one (bit_at-zero (j % 64)) (ap (λ w. bit_at w (j % 64)) (sym none) ∙ bits_both j at p q))

  pub word_misses_beside : i ≡ e / 64 → (j : ℕ) → j / 64 ≡ i → Has a j → Has b j → bit_and word (bit_not w64 (1 * 2 ^ (e % 64) % 2 ^ 64)) ≡ 0 → e ≡ j
  word_misses_beside here j at p q none =
      let mask = bit_not w64 (1 * 2 ^ (e % 64) % 2 ^ 64) in
      let lower : e % 64 < 64 = omega arith in
      elim (cases_eq (j % 64) (e % 64)) [
        | inl f ↦ sym (same_place j e (at ∙ here) f)
        | inr f ↦
            let bit : bit_at (bit_and word mask) (j % 64) ≡ 1 = bit_at_clear_other w64 word (e % 64) lower (j % 64) (omega arith) f ∙ bits_both j at p q in
            absurd (zero-not-one (bit_at-zero (j % 64)) (ap (λ w. bit_at w (j % 64)) (sym none) ∙ bit))
      ]

-- a number in both sets stands at a word that both have
pub has_within : (a : SiteSet) (j : ℕ) → Has a j → j / 64 < length a.words
has_within a j h = elim (cases_lt (j / 64) (length a.words)) [
  | inl f ↦ f
  | inr f ↦ absurd (zero-not-one (bit_at-zero (j % 64)) (ap (λ w. bit_at w (j % 64)) (sym (get_or_past a.words (j / 64) 0 f)) ∙ bit_of_has a j h))
]

pub no_set_has : (k : ℕ) → Has (record { words = [] }) k → ⊥
no_set_has k h = zero-not-one (bit_at-zero (k % 64)) (bit_of_has (record { words = [] }) k h)

-- a set of a table, whatever stands where there is none
pub set_found : (sets : List SiteSet) (i : ℕ) (set : SiteSet) → i < length sets → set ≡ get_or sets i set → set ≡ get_or sets i (record { words = [] })
set_found [] i set h e = absurd (omega arith)
set_found (r ∷ sets) zero set h e = e
set_found (r ∷ sets) (suc i) set h e = set_found sets i set (omega arith) e

-- a set whose word has the bits of one, and those of two others but for a number
pub has_common : (r a b c : SiteSet) (e k common : ℕ) → get_or c.words (k / 64) 0 ≡ bit_or (get_or r.words (k / 64) 0) common
    → ((k / 64 ≡ e / 64 → ⊥) × (common ≡ bit_and (get_or a.words (k / 64) 0) (get_or b.words (k / 64) 0))) ⊎
    ((k / 64 ≡ e / 64) × (common ≡ bit_and (bit_and (get_or a.words (k / 64) 0) (get_or b.words (k / 64) 0)) (bit_not w64 (1 * 2 ^ (e % 64) % 2 ^ 64))))
    → Adds (Has r k) (Has c k) (IsCommon a b e k)
has_common r a b c e k common is which =
    let i = k / 64 in
    let j = k % 64 in
    let lower : e % 64 < 64 = omega arith in
    let low : j < 64 = omega arith in
    let w = bit_and (get_or a.words i 0) (get_or b.words i 0) in
    let mask = bit_not w64 (1 * 2 ^ (e % 64) % 2 ^ 64) in
    let to : bit_at common j ≡ 1 → IsCommon a b e k = λ h. elim which [
      | inl (n, f) ↦
          let g : bit_at w j ≡ 1 = ap (λ x. bit_at x j) (sym f) ∙ h in
          let both = both_bits a b i e j g in
          record { differs = λ q. n (ap (λ x. x / 64) (sym q)); first = has_of_bit a k both.0; second = has_of_bit b k both.1 }
      | inr (n, f) ↦
          let g : bit_at (bit_and w mask) j ≡ 1 = ap (λ x. bit_at x j) (sym f) ∙ h in
          let apart : j ≡ e % 64 → ⊥ = λ q. zero-not-one (bit_at_clear_same w64 w (e % 64) lower) (ap (bit_at (bit_and w mask)) (sym q) ∙ g) in
          let both = both_bits a b i e j (sym (bit_at_clear_other w64 w (e % 64) lower j low apart) ∙ g) in
          record { differs = λ q. apart (ap (λ x. x % 64) (sym q)); first = has_of_bit a k both.0; second = has_of_bit b k both.1 }
    ] in
    let from : IsCommon a b e k → bit_at common j ≡ 1 = λ h.
    let g : bit_at w j ≡ 1 = bits_both a b i e k refl h.first h.second in
    elim which [
      | inl (n, f) ↦ ap (λ x. bit_at x j) f ∙ g
      | inr (n, f) ↦
          let apart : j ≡ e % 64 → ⊥ = λ q. h.differs (sym (same_place k e n q)) in
          ap (λ x. bit_at x j) f ∙ (bit_at_clear_other w64 w (e % 64) lower j low apart ∙ g)
    ] in
    let x = get_or r.words i 0 in
    let m : bit_at (get_or c.words i 0) j ≡ max (bit_at x j) (bit_at common j) = rw is (bit_at_or x common j) in
    record {
      splits = λ h. elim (either (bit_at x j) (bit_at common j) (sym m ∙ bit_of_has c k h) (bit_at-lt x j) (bit_at-lt common j)) [ inl f ↦ inl (has_of_bit r k f) | inr f ↦ inr (to f) ];
      stays = λ h. has_of_bit c k (omega (arith, m, bit_of_has r k h, bit_at-lt common j));
      joins = λ h. has_of_bit c k (omega (arith, m, from h, bit_at-lt x j));
    }

pub has_words : (a b : SiteSet) (k : ℕ) → get_or a.words (k / 64) 0 ≡ get_or b.words (k / 64) 0 → has a k ≡ has b k
unfolding has
has_words a b k e = ap (λ w. bit_at w (k % 64) == 1) e
