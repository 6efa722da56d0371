-- How the files of probes grow.
use Rattle.std.specs.Prelude.{ℕ, ◌≡◌, ◌<◌, ◌⊎◌, List, [], ◌++◌, map, take, Option, Some, IsSome, IfSome}
use Rattle.safl_io.specs.Shelf.{Files, ShelfState, file_of, SameOthers, Leaves}
use Rattle.safl_io.specs.Told.{TellsOn}
use Rattle.safl_probe.specs.Texts.{Text}
use Rattle.safl_probe.specs.Probing.{ProbeState}
use Rattle.safl_probe.specs.Asked.{Asked, FileNames, IsAsked, IsUnnamed, AreApart, asked, probe_at}
use Rattle.safl_probe.specs.declared.moment.Moment.{Moment}
use Rattle.safl_probe.specs.declared.moment.Moment.TheVariants.{Beginning, Frame, End}

-- a file that was there has this text after its old one; and after an error a prefix of it
abbrev pub Longer : Option Text → Text → Option Text → Type 0
Longer had text now = IfSome had (λ h. now ≡ Some (h ++ text))

abbrev pub LongerPart : Option Text → Text → Option Text → Type 0
LongerPart had text now = IfSome had (λ h. (count : ℕ) × (now ≡ Some (h ++ take count text)))

-- a file is made anew with this text; and after an error it is the old one, or a prefix of the text
abbrev pub Made : Option Text → Text → Option Text → Type 0
Made had text now = now ≡ Some text

abbrev pub OldOrPart : Option Text → Text → Option Text → Type 0
OldOrPart had text now = (now ≡ had) ⊎ ((count : ℕ) × (now ≡ Some (take count text)))

-- at the beginning a file is made anew, and later it gets longer; and the same after an error
abbrev pub Grown : Moment → Option Text → Text → Option Text → Type 0
Grown Beginning had text now = Made had text now
Grown (Frame t) had text now = Longer had text now
Grown End had text now = Longer had text now

abbrev pub GrownPart : Moment → Option Text → Text → Option Text → Type 0
GrownPart Beginning had text now = OldOrPart had text now
GrownPart (Frame t) had text now = LongerPart had text now
GrownPart End had text now = LongerPart had text now

-- the file with a name is in this relation to its old text, with some text; all others are as they were
abbrev pub Relation : Type 1
Relation = Option Text → Text → Option Text → Type 0

pub record Grows (R : Relation) (name : List ℕ) (text : Text) (old new : Files) : Type 0 where
  pub file : R (file_of old name) text (file_of new name)
  pub others : SameOthers name old new

-- the file with a name is created if this is the beginning of the run
abbrev pub Opens : Moment → List ℕ → Option Files → Option Files → Type 0
Opens Beginning name old new = TellsOn (Leaves name []) old new
Opens (Frame t) name old new = new ≡ old
Opens End name old new = new ≡ old

-- the file of each asked probe is in this relation to its old text, with the text at the probe's place; all other files are as
-- they were
pub record AllGrow (R : Relation) (names : Asked) (text : ℕ → Text) (old new : Files) : Type 0 where
  pub files : (i : ℕ) (name : List ℕ) → IsAsked names i name → R (file_of old name) (text i) (file_of new name)
  pub others : (name : List ℕ) → IsUnnamed names name → file_of new name ≡ file_of old name

-- The files of all asked probes are in this relation to their old texts, with the text that each probe gives. This is claimed if
-- no two probes are asked to write the same file and the shelf tells.
abbrev pub FilesGrow : {P : Type 0} → Relation → FileNames → (ProbeState → Text) → (P → ProbeState) → List P → ShelfState → ShelfState → Type 0
FilesGrow R names text tell ps old new =
    AreApart (asked names) → TellsOn (AllGrow R (asked names) (λ i. text (probe_at (map tell ps) i))) old.holds new.holds

-- the files of the first `count` asked probes are in this relation to their old texts, and all others are as they were
pub record FirstGrow (R : Relation) (names : Asked) (text : ℕ → Text) (count : ℕ) (old new : Files) : Type 0 where
  pub files : (i : ℕ) (name : List ℕ) → i < count → IsAsked names i name → R (file_of old name) (text i) (file_of new name)
  pub others : (name : List ℕ) → ((i : ℕ) → i < count → IsAsked names i name → ⊥) → file_of new name ≡ file_of old name

-- the files of all asked probes are there
abbrev pub NowThere : Asked → Files → Type 0
NowThere names files = (i : ℕ) (name : List ℕ) → IsAsked names i name → IsSome (file_of files name)

-- at the beginning nothing; later, a shelf that tells has this file
abbrev pub IsThere : Moment → List ℕ → Option Files → Type 0
IsThere Beginning name holds = Unit {0}
IsThere (Frame t) name holds = IfSome holds (λ files. IsSome (file_of files name))
IsThere End name holds = IfSome holds (λ files. IsSome (file_of files name))

-- at the beginning nothing; later, a shelf that tells has the files of all asked probes
abbrev pub AllThere : Moment → Asked → Option Files → Type 0
AllThere moment names holds = (i : ℕ) (name : List ℕ) → IsAsked names i name → IsThere moment name holds

-- if the files of all asked probes are there at a moment, they are there after it
abbrev pub LeavesAllThere : Moment → FileNames → ShelfState → ShelfState → Type 0
LeavesAllThere moment names old new = AllThere moment (asked names) old.holds → TellsOn (λ _ now. NowThere (asked names) now) old.holds new.holds
