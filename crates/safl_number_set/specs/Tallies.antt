-- The sums over the blocks of a list of numbers, and how they change.
use Rattle.std.specs.Prelude.{◌≡◌, ℕ, ◌+◌, ◌-◌, ◌≤◌, Bool, cond, length, sum, get_or, slice_set}
use Rattle.safl_number_set.specs.Numbers.{AreSums}
use Rattle.safl_number_set.specs.declared.tally.Tally.{Tally}

-- at most 157 blocks; the upper sums are those over 32 blocks, and the last is that of all
pub record AreSummed (t : Tally) : Type 0 where
  pub few : length t.blocks.items ≤ 157
  pub tops : AreSums t.blocks.items t.tops.items
  pub total : t.total ≡ sum t.blocks.items

abbrev pub shift_of : ℕ → ℕ → Bool → ℕ
shift_of count by more = cond more (count + by) (count - by)

-- the sums before and after `by` is added to one block or subtracted from it
pub record Shifts (s : Tally) (block by : ℕ) (more : Bool) (t : Tally) : Type 0 where
  pub blocks : t.blocks.items ≡ slice_set s.blocks.items block (shift_of (get_or s.blocks.items block 0) by more)
  pub summed : AreSummed t
