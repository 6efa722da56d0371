-- A shelf in memory.
use Rattle.std.specs.Prelude.{ℕ, ◌≡◌, ◌⊎◌, ◌++◌, ◌/◌, List, length, take, Some, IsNone, option_map}
use Rattle.safl_io.specs.Shelf.{Files, ShelfState, file_of}
use Rattle.safl_io.specs.Calls.{Calls, Fails}

-- the files, the calls and the counts of a shelf in memory
pub record Memory : Type 0 where
  pub files : Files
  pub calls : Calls
  pub read_faults : ℕ
  pub write_faults : ℕ
  pub strays : ℕ

-- what it tells: all of its files
abbrev pub told_by : Memory → ShelfState
told_by shelf = record { holds = Some shelf.files; read_faults = shelf.read_faults; write_faults = shelf.write_faults; strays = shelf.strays }

-- the next call is to fail, or no file has this name
abbrev pub FailsAt : Memory → List ℕ → Type 0
FailsAt shelf name = Fails shelf.calls ⊎ IsNone (file_of shelf.files name)

-- the files after an append that failed: the first half of the piece, rounded down, was added to the file, if it is there
abbrev pub AppendsHalf : List ℕ → List ℕ → Files → Files → Type 0
AppendsHalf name bytes old new = file_of new name ≡ option_map (λ had. had ++ take (length bytes / 2) bytes) (file_of old name)
