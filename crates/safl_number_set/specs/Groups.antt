-- Sets of numbers that belong to groups, and how they are stored.
use Rattle.std.specs.Prelude.{◌≡◌, ◌==◌, ℕ, ◌*◌, ◌/◌, ◌<◌, ◌≤◌, List, [], ◌∷◌, Bool, cond, length, sum, get_or, slice_set, replicate}
use Rattle.std.specs.Int.{from_bool}
use Rattle.safl_number_set.specs.Numbers.{AreSums, part}
use Rattle.safl_number_set.specs.Linking.{AreBelow, AreLinked}
use Rattle.safl_number_set.specs.Tallies.{AreSummed}
use Rattle.safl_number_set.specs.declared.groups.Groups.{Groups}
use Rattle.safl_number_set.specs.declared.tally.Tally.{Tally}

-- the group of each number, 1 for each number that is in the set, and 1 for each group that is open; 0 for the others
pub record Grouped : Type 0 where
  pub group : List ℕ
  pub within : List ℕ
  pub opened : List ℕ

-- the bit of each number, times the weight of its group
unfoldable pub weighed : (ℕ → ℕ) → List ℕ → List ℕ → List ℕ
weighed weight [] bits = []
weighed weight (g ∷ gs) [] = []
weighed weight (g ∷ gs) (b ∷ bits) = b * weight g ∷ weighed weight gs bits

-- 1 for each number that is in the set and whose group is open, 0 for the others
abbrev pub counted : Grouped → List ℕ
counted s = weighed (λ g. get_or s.opened g 0) s.group s.within

-- the set after a number is put in or taken out; and after a group is opened or closed
abbrev pub put_in : Grouped → ℕ → Bool → Grouped
put_in s k is_in = record s { within = slice_set s.within k (from_bool is_in) }

abbrev pub turned : Grouped → ℕ → Bool → Grouped
turned s g is_open = record s { opened = slice_set s.opened g (from_bool is_open) }

-- the empty set of numbers that belong to one of `count` groups, all of which are open
abbrev pub none_of : List ℕ → ℕ → Grouped
none_of group count = record { group = group; within = replicate (length group) 0; opened = replicate count 1 }

-- ---- how they are stored

abbrev pub shown_groups : Groups → Grouped
shown_groups s = record { group = s.group.items; within = s.within.items; opened = s.opened.items }

-- 1 for this group, 0 for all others
abbrev pub only : ℕ → ℕ → ℕ
only g h = cond (h == g) 1 0

-- The bits are 0 or 1, the numbers are linked, and the last number of a group in a block tells how many of the group's
-- numbers in that block are in the set.
pub record AreGrouped (s : Groups) : Type 0 where
  pub few : length s.group.items ≤ 5000
  pub below : AreBelow (length s.opened.items) s.group.items
  pub long : length s.within.items ≡ length s.group.items
  pub bits : (k : ℕ) → get_or s.within.items k 0 ≤ 1
  pub opens : (g : ℕ) → get_or s.opened.items g 0 ≤ 1
  pub heads : length s.links.heads.items ≡ length s.opened.items
  pub linked : AreLinked s.group.items s.links
  pub parts_all : length s.parts.items ≡ length s.group.items
  pub parts : (k : ℕ) → k < length s.group.items
      → get_or s.parts.items (get_or s.links.ends.items k 0) 0 ≡ sum (part (k / 32) (weighed (only (get_or s.group.items k 0)) s.group.items s.within.items))

-- the sums are those of this list of numbers
pub record Tallies (low : List ℕ) (t : Tally) : Type 0 where
  pub blocks : AreSums low t.blocks.items
  pub summed : AreSummed t

-- the stored set before and after a number is put in or taken out
pub record Puts (s : Groups) (k : ℕ) (is_in : Bool) (t : Groups) : Type 0 where
  pub grouped : AreGrouped t
  pub now : shown_groups t ≡ put_in (shown_groups s) k is_in
