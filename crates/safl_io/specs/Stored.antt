-- Files that are kept in memory.
use Rattle.std.specs.Prelude.{ℕ, ◌≡◌, ◌<◌, List, length, take, map, get_or, string_bytes, IsNone}
use Rattle.safl_io.specs.Shelf.{Files, file_of}
use Rattle.safl_io.specs.declared.stored.StoredFile.{StoredFile}

-- the names and bytes of stored files
abbrev pub pairs_of : List StoredFile → Files
pairs_of files = map (λ file. (string_bytes file.name, file.bytes.items)) files

-- the first file with this name is at this place of the list
pub record IsPlace (files : List StoredFile) (name : List ℕ) (place : ℕ) : Type 0 where
  pub within : place < length files
  pub named : (other : StoredFile) → string_bytes (get_or files place other).name ≡ name
  pub first : IsNone (file_of (pairs_of (take place files)) name)
