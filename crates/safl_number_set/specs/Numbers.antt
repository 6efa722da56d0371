-- Sets of numbers below a bound, as lists of bits with their sums.
use Rattle.std.specs.Prelude.{◌≡◌, ℕ, ◌*◌, ◌≤◌, List, length, sum, take, drop, get_or}

-- block k of a list, of 32 numbers
abbrev pub part : ℕ → List ℕ → List ℕ
part b low = take 32 (drop (32 * b) low)

-- the upper numbers are the sums of the lower ones over blocks of 32
pub record AreSums (low high : List ℕ) : Type 0 where
  pub each : (b : ℕ) → get_or high b 0 ≡ sum (part b low)
  pub enough : length low ≤ 32 * length high

-- bits, their sums over blocks of 32, the sums of those over 32 blocks, and the sum of all
pub record IsCounted (low middle high : List ℕ) (all : ℕ) : Type 0 where
  pub bits : (k : ℕ) → get_or low k 0 ≤ 1
  pub few : length low ≤ 5000
  pub blocks : AreSums low middle
  pub tops : AreSums middle high
  pub total : all ≡ sum low
