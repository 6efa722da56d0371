-- What a shelf holds, and what its calls do to it. Names and files are lists of bytes.
use Rattle.std.specs.Prelude.{ℕ, ◌≡◌, ◌≢◌, ◌<◌, ◌≤◌, ◌+◌, ◌⊎◌, List, [], ◌∷◌, ◌++◌, length, take, drop, bytes_eq, Option, Some, None, IsNone, OnSome, IsSomeAnd, MatchOption, if◌then◌else◌}
use Rattle.safl_io.specs.Counts.{Rose}

-- pairs of a name and the bytes of its file
abbrev pub Files : Type 0
Files = List (List ℕ × List ℕ)

-- what a shelf tells: its files, if it tells them; how often a read and a write failed, and a name was used that it has no file of
pub record ShelfState : Type 0 where
  pub holds : Option Files
  pub read_faults : ℕ
  pub write_faults : ℕ
  pub strays : ℕ

-- the file with a name: the bytes of the first pair with that name
abbrev pub file_of : Files → List ℕ → Option (List ℕ)
file_of [] name = None
file_of (pair ∷ files) name = if bytes_eq pair.0 name then Some pair.1 else file_of files name

-- all files but the one with this name are as they were
abbrev pub SameOthers : List ℕ → Files → Files → Type 0
SameOthers name old new = (other : List ℕ) → other ≢ name → file_of new other ≡ file_of old other

-- the file with this name has these bytes, whether it was there before or not; all others are as they were
pub record Leaves (name bytes : List ℕ) (old new : Files) : Type 0 where
  pub file : file_of new name ≡ Some bytes
  pub others : SameOthers name old new

-- the files after a create that failed: the old file or an empty one is there, and none only if none was
pub record LeavesOldOrEmpty (name : List ℕ) (old new : Files) : Type 0 where
  pub file : (file_of new name ≡ file_of old name) ⊎ (file_of new name ≡ Some [])
  pub others : SameOthers name old new

-- the files after a write of a whole file that failed: the old file is there, or one with a prefix of the bytes
pub record LeavesOldOrPart (name bytes : List ℕ) (old new : Files) : Type 0 where
  pub file : (file_of new name ≡ file_of old name) ⊎ ((count : ℕ) × (file_of new name ≡ Some (take count bytes)))
  pub others : SameOthers name old new

-- the file with this name was there, and now has these bytes after its old ones
pub record Appends (name bytes : List ℕ) (old new : Files) : Type 0 where
  pub file : IsSomeAnd (file_of old name) (λ had. file_of new name ≡ Some (had ++ bytes))
  pub others : SameOthers name old new

-- the files after an append that failed: the old bytes and a prefix of the piece are there, and no file if none was
pub record AppendsPart (name bytes : List ℕ) (old new : Files) : Type 0 where
  pub file : MatchOption (file_of old name) (IsNone (file_of new name)) (λ had. (count : ℕ) × (file_of new name ≡ Some (had ++ take count bytes)))
  pub others : SameOthers name old new

-- this many bytes at the beginning of the buffer are those of the file from `at` on. They are none only at or past its end
pub record ReadsFrom (at count : ℕ) (buffer : List ℕ) (file : List ℕ) : Type 0 where
  pub bytes : drop at file ≡ take count buffer ++ drop (at + count) file
  pub end : 0 < length buffer → count ≡ 0 → length file ≤ at

-- the file with this name is there, and is read in this way
abbrev pub ReadsFile : List ℕ → ℕ → ℕ → List ℕ → Files → Type 0
ReadsFile name at count buffer files = IsSomeAnd (file_of files name) (ReadsFrom at count buffer)

-- the shelf tells that it has no file with this name
abbrev pub IsStray : Option Files → List ℕ → Type 0
IsStray None name = ⊥
IsStray (Some files) name = IsNone (file_of files name)

-- the count of strays after a call with this name: it rises if the name is stray, and otherwise stays
abbrev pub CountsStray : Option Files → List ℕ → ℕ → ℕ → Type 0
CountsStray None name before now = now ≡ before
CountsStray (Some files) name before now = MatchOption (file_of files name) (Rose before now) (λ _. now ≡ before)

-- what a read leaves, whatever comes: what the shelf holds and its count of failed writes are the same, and no other count of it fell
pub record SameFiles (old new : ShelfState) : Type 0 where
  pub holds : new.holds ≡ old.holds
  pub reads : old.read_faults ≤ new.read_faults
  pub writes : new.write_faults ≡ old.write_faults
  pub strays : old.strays ≤ new.strays

-- what a write leaves, whatever comes: the shelf's count of failed reads is the same, and no other count of it fell
pub record SameReads (old new : ShelfState) : Type 0 where
  pub reads : new.read_faults ≡ old.read_faults
  pub writes : old.write_faults ≤ new.write_faults
  pub strays : old.strays ≤ new.strays

-- no count of faults changed
pub record SameFaults (old new : ShelfState) : Type 0 where
  pub reads : new.read_faults ≡ old.read_faults
  pub writes : new.write_faults ≡ old.write_faults

-- on a shelf that tells what it holds, no stray name was used
abbrev pub UsesNoStray : ShelfState → ShelfState → Type 0
UsesNoStray old new = OnSome old.holds (new.strays ≡ old.strays)
