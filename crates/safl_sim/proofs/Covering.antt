-- Words of marks, and beside them a mark for each word that is not 0.
use Rattle.std.proofs.Common.{◌≡◌, inl, inr, ℕ, zero, suc, ◌+◌, ◌-◌, ◌*◌, ◌/◌, ◌%◌, ◌^◌, ◌<◌, ◌≤◌, List, length, set, slice_index, sym, ap, ◌∙◌, arith}
use Rattle.std.specs.Int.{w64, bit_at, bit_not, trailing_zeros}
use Rattle.std.specs.Int.RustNames.{bit_or}
use lib.Bits.{bit_and}
use Rattle.std.proofs.lemmas.Nat.Bits.{bit_at-suc, bit_at-trailing_zeros, bit_at_above, bit_at_clear_other}
use Rattle.std.proofs.Math.Nat.{div-one, div-div-eq-div-mul}
use Rattle.std.proofs.lemmas.Bool.{cases_eq, cases_lt}
use Rattle.std.proofs.lemmas.List.{length-set}
use Rattle.safl_sim.specs.Marks.{marked, Covers}
use Rattle.safl_sim.proofs.Written.{index_here, index_other}
use Rattle.safl_sim.proofs.MarksByOne.{written_same, written_other, mark_has}

-- a word without its mark is 0
pub covers_none : (filled words : List ℕ) (w : ℕ) → Covers filled words → marked filled w ≡ 0 → slice_index words w ≡ 0
covers_none filled words w c e = elim (cases_eq (slice_index words w) 0) [ inl z ↦ z | inr n ↦ absurd (let a = c.1 w n in omega (arith, a, e)) ]

-- a word that is 0 now needs no mark
pub covers_taken : (filled words : List ℕ) (w : ℕ) → Covers filled words → w < length words
    → Covers (set filled (w / 64) (bit_and (slice_index filled (w / 64)) (bit_not w64 (1 * 2 ^ (w % 64) % 2 ^ 64)))) (set words w 0)
covers_taken filled words w c h =
    let x = bit_and (slice_index filled (w / 64)) (bit_not w64 (1 * 2 ^ (w % 64) % 2 ^ 64)) in
    let low : w % 64 < 64 = omega arith in (
      (let a = length-set filled (w / 64) x in let b = length-set words w 0 in let d = c.0 in omega (arith, a, b, d)),
      λ v n. elim (cases_eq v w) [
        | inl q ↦ absurd (n (ap (slice_index (set words w 0)) q ∙ index_here words w 0 h))
        | inr q ↦
            let was = c.1 v (λ z. n (index_other words w 0 v q ∙ z)) in
            elim (cases_eq (v / 64) (w / 64)) [
              | inl s ↦
                  written_same filled (w / 64) x v (let a = c.0 in omega (arith, a, h)) s
                  ∙ bit_at_clear_other w64 (slice_index filled (w / 64)) (w % 64) low (v % 64) (omega arith) (λ e. q (omega (arith, e, s)))
                  ∙ ap (λ y. bit_at (slice_index filled y) (v % 64)) (sym s) ∙ was
              | inr s ↦ written_other filled (w / 64) x v s ∙ was
            ]
      ],
    )

-- a word that is marked as not 0
pub covers_new : (filled words : List ℕ) (w y : ℕ) → Covers filled words → w < length words
    → Covers (set filled (w / 64) (bit_or (slice_index filled (w / 64)) (1 * 2 ^ (w % 64) % 2 ^ 64))) (set words w y)
covers_new filled words w y c h =
    let m = mark_has filled w (let a = c.0 in omega (arith, a, h)) in (
      (let a = m.long in let b = length-set words w y in let d = c.0 in omega (arith, a, b, d)),
      λ v n. elim (cases_eq v w) [
        | inl q ↦ ap (marked (set filled (w / 64) (bit_or (slice_index filled (w / 64)) (1 * 2 ^ (w % 64) % 2 ^ 64)))) q ∙ m.here
        | inr q ↦ m.others v q ∙ c.1 v (λ z. n (index_other words w y v q ∙ z))
      ],
    )

-- the bits of a number that is moved
moved : (n s j : ℕ) → bit_at (n / 2 ^ s) j ≡ bit_at n (s + j)
moved n zero j = ap (λ x. bit_at x j) (div-one n) ∙ ap (bit_at n) (let e : j ≡ 0 + j = omega arith in e)
moved n (suc s) j =
    ap (λ x. bit_at x j) (let e : 2 ^ suc s ≡ 2 * 2 ^ s = omega arith in ap (λ d. n / d) e ∙ sym (div-div-eq-div-mul n 2 (2 ^ s)))
    ∙ moved (n / 2) s j ∙ sym (bit_at-suc n (s + j)) ∙ ap (bit_at n) (let e : suc (s + j) ≡ suc s + j = omega arith in e)

-- a word whose bit is 0
pub bit_none : (filled words : List ℕ) (b v : ℕ) → Covers filled words → v / 64 ≡ b → bit_at (slice_index filled b) (v % 64) ≡ 0 → slice_index words v ≡ 0
bit_none filled words b v c e z = covers_none filled words v c (ap (λ y. bit_at (slice_index filled y) (v % 64)) e ∙ z)

-- no word of a block before the first whose bit is 1, counted from a word on
pub begun_none : (filled words : List ℕ) (from f n v : ℕ) → Covers filled words → slice_index filled (from / 64) ≡ f →
    ((i : ℕ) → i < n → bit_at (f / 2 ^ (from % 64)) i ≡ 0) → from ≤ v → v < from + n → v / 64 ≡ from / 64
    → slice_index words v ≡ 0
begun_none filled words from f n v c is low late early same =
    let j = v - from in
    let place : from % 64 + j ≡ v % 64 = omega (arith, late, same) in
    bit_none filled words (from / 64) v c same
    (ap (λ y. bit_at y (v % 64)) is ∙ ap (bit_at f) (sym place) ∙ sym (moved f (from % 64) j) ∙ low j (omega (arith, early, late)))

-- the first bit that is 1 is one of the block
pub begun_within : (f s : ℕ) → f < 2 ^ 64 → 0 < f / 2 ^ s → f / 2 ^ s < 2 ^ 64 → s + trailing_zeros w64 (f / 2 ^ s) < 64
begun_within f s fits some small = elim (cases_lt (s + trailing_zeros w64 (f / 2 ^ s)) 64) [
  | inl h ↦ h
  | inr h ↦ absurd (let a = sym (moved f s (trailing_zeros w64 (f / 2 ^ s))) ∙ (bit_at-trailing_zeros w64 (f / 2 ^ s) some small).1 in let b =
      bit_at_above f 64 (s + trailing_zeros w64 (f / 2 ^ s)) fits h in omega (arith, a, b))
]
