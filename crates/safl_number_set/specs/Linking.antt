-- Links from one block of 32 numbers that has numbers of a group to the next.
use Rattle.std.specs.Prelude.{◌≡◌, ℕ, suc, ◌/◌, ◌<◌, ◌≤◌, List, length, get_or}
use Rattle.safl_number_set.specs.declared.links.Links.{Links}

-- each number has one of `count` groups
abbrev pub AreBelow : ℕ → List ℕ → Type 0
AreBelow count group = (k : ℕ) → k < length group → get_or group k 0 < count

-- Of the numbers from low on, k is the last one of group g in its block, and no number of the group is in an earlier block, from
-- this block on. If no number of the group is in these blocks, k is past all numbers.
pub record Follows (low : ℕ) (gs lasts : List ℕ) (g block k : ℕ) : Type 0 where
  pub above : k < length gs → low ≤ k
  pub group : k < length gs → get_or gs k 0 ≡ g
  pub ends : k < length gs → get_or lasts k 0 ≡ k
  pub from : k < length gs → block ≤ k / 32
  pub least : (j : ℕ) → low ≤ j → j < length gs → get_or gs j 0 ≡ g → block ≤ j / 32 → (k < length gs) × (k / 32 ≤ j / 32)

-- r is in the block and in the group of number k
pub record IsBeside (gs : List ℕ) (k r : ℕ) : Type 0 where
  pub number : r < length gs
  pub block : r / 32 ≡ k / 32
  pub group : get_or gs r 0 ≡ get_or gs k 0

-- the numbers from low on are linked
pub record AreLinkedFrom (low : ℕ) (group : List ℕ) (l : Links) : Type 0 where
  pub ends_all : length l.ends.items ≡ length group
  pub nexts_all : length l.nexts.items ≡ length group
  pub beside : (k : ℕ) → low ≤ k → k < length group → IsBeside group k (get_or l.ends.items k 0)
  pub one : (j k : ℕ) → low ≤ j → low ≤ k → k < length group → IsBeside group k j → get_or l.ends.items j 0 ≡ get_or l.ends.items k 0
  pub heads : (g : ℕ) → g < length l.heads.items → Follows low group l.ends.items g 0 (get_or l.heads.items g 0)
  pub nexts : (k : ℕ) → low ≤ k → k < length group → get_or l.ends.items k 0 ≡ k
      → Follows low group l.ends.items (get_or group k 0) (suc (k / 32)) (get_or l.nexts.items k 0)

abbrev pub AreLinked : List ℕ → Links → Type 0
AreLinked group l = AreLinkedFrom 0 group l
