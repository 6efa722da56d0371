-- Marks: number i is marked if bit i % 64 of word i / 64 is 1.
use Rattle.std.specs.Prelude.{◌≡◌, ℕ, ◌+◌, ◌*◌, ◌<◌, ◌≤◌, ◌/◌, ◌%◌, List, length, slice_set, slice_index}
use Rattle.std.specs.Int.{bit_at}

abbrev pub marked : List ℕ → ℕ → ℕ
marked words i = bit_at (slice_index words (i / 64)) (i % 64)

-- number i is marked now; all else is as before
pub record HasMark (old new : List ℕ) (i : ℕ) : Type 0 where
  pub long : length new ≡ length old
  pub here : marked new i ≡ 1
  pub others : (k : ℕ) → ¬ (k ≡ i) → marked new k ≡ marked old k

-- no number of a word is marked
abbrev pub HasNone : List ℕ → ℕ → Type 0
HasNone words w = (k : ℕ) → k / 64 ≡ w → marked words k ≡ 0

-- no number of the words from one to another is marked
abbrev pub NoneBetween : List ℕ → ℕ → ℕ → Type 0
NoneBetween words from to = (w : ℕ) → from ≤ w → w < to → HasNone words w

-- the first marked number of a word is not marked any longer
pub record HasTaken (old new : List ℕ) (w i : ℕ) : Type 0 where
  pub long : length new ≡ length old
  pub within : i / 64 ≡ w
  pub was : marked old i ≡ 1
  pub first : (k : ℕ) → k / 64 ≡ w → k < i → marked old k ≡ 0
  pub gone : marked new i ≡ 0
  pub others : (k : ℕ) → ¬ (k ≡ i) → marked new k ≡ marked old k

-- the marks with this word in place of one. It is used while the marks of a word are held apart
abbrev pub holding : List ℕ → ℕ → ℕ → List ℕ
holding marks w held = slice_set marks w held

-- the second layer of marks has a mark for each word that is not 0
abbrev pub Covers : List ℕ → List ℕ → Type 0
Covers filled words = (length words ≤ length filled * 64) × ((w : ℕ) → ¬ (slice_index words w ≡ 0) → marked filled w ≡ 1)

-- the numbers of a range are marked now; all else is as before
pub record HasRange (from to : ℕ) (old new : List ℕ) : Type 0 where
  pub long : length new ≡ length old
  pub all : (k : ℕ) → from ≤ k → k < to → marked new k ≡ 1
  pub below : (k : ℕ) → k < from → marked new k ≡ marked old k
  pub above : (k : ℕ) → to ≤ k → marked new k ≡ marked old k

-- the number of the first register's mark: the marks of registers begin with a word of their own, after those of the steps
abbrev pub first_register : ℕ → ℕ
first_register steps = (steps + 63) / 64 * 64

-- how many words hold the marks of this many steps and registers
abbrev pub mark_words : ℕ → ℕ → ℕ
mark_words steps registers = (first_register steps + registers + 63) / 64

-- taking the first mark out of a word that is held apart leaves these marks
abbrev pub TakesFirst : ℕ → ℕ → ℕ → Type 0
TakesFirst held bit left = (word : ℕ) (marks : List ℕ) → word < length marks
    → HasTaken (holding marks word held) (holding marks word left) word (word * 64 + bit)
