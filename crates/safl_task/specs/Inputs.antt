-- The files that a command reads, as the code has them.
use Rattle.std.specs.Prelude.{◌≡◌, ℕ, ◌<◌, ◌≤◌, List, map, length}
use Rattle.std.specs.declared.vec.Vec.{Vec}
use Rattle.std.specs.declared.alloc.Global.{Global}
use Rattle.safl_io.specs.Counts.{Rose}
use Rattle.safl_io.specs.Shelf.{ShelfState}
use Rattle.safl_task.specs.Tasks.{Input, OfFile, ReachesInput}
use Rattle.safl_task.specs.declared.input.Input as code
use Rattle.safl_task.specs.declared.input.Unread.{Unread}
use Rattle.safl_task.specs.declared.input.Unread.TheVariants as unread

-- a file of at most so many bytes
abbrev pub file_within : List ℕ → ℕ → Input
file_within name limit = record { name = name; limit = limit }

abbrev pub shown_input : code.Input → Input
shown_input i = record { name = i.name.now; limit = i.limit }

abbrev pub shown_inputs : List code.Input → List Input
shown_inputs is = map shown_input is

-- the contents of files as lists of bytes
abbrev pub shown_contents : List (Vec ℕ Global) → List (List ℕ)
shown_contents contents = map (λ (v : Vec ℕ Global). v.items) contents

-- why one of the files was not read: the shelf failed, the file is longer than its limit, or memory ran out
abbrev pub IsUnreadAt : Input → ShelfState → ShelfState → Unread → Type 0
IsUnreadAt i old new (unread.Failed name) = (name.now ≡ i.name) × Rose old.read_faults new.read_faults
IsUnreadAt i old new (unread.TooLong name limit) = (name.now ≡ i.name) × (limit ≡ i.limit) × OfFile old.holds i.name (λ bytes. i.limit < length bytes)
IsUnreadAt i old new unread.NoMemory = Unit {0}

-- why some files were not read
abbrev pub AreUnread : List Input → ShelfState → ShelfState → Unread → Type 0
AreUnread inputs old new unread.NoMemory = Unit {0}
AreUnread inputs old new why = (i : Input) × ReachesInput inputs old.holds i × IsUnreadAt i old new why

-- what reading files leaves on the shelf
pub record OnlyReads (old new : ShelfState) : Type 0 where
  pub files : new.holds ≡ old.holds
  pub writes : new.write_faults ≡ old.write_faults
  pub reads : old.read_faults ≤ new.read_faults
