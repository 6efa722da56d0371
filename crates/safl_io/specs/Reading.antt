-- Reading a file to its end.
use Rattle.std.specs.Prelude.{ℕ, ◌≡◌, ◌<◌, List, [], ◌++◌, length, drop, Option, Some, IfSome, IsSomeAnd, MatchOption}
use Rattle.safl_io.specs.Shelf.{Files, file_of}

-- the file with this name has these bytes
abbrev pub HasFile : List ℕ → List ℕ → Files → Type 0
HasFile name bytes files = file_of files name ≡ Some bytes

-- the file with this name has more bytes than the limit
abbrev pub HasLonger : List ℕ → ℕ → Files → Type 0
HasLonger name limit files = IsSomeAnd (file_of files name) (λ file. limit < length file)

-- the text is a prefix of the file, and empty if there is no file
abbrev pub IsFront : List ℕ → Option (List ℕ) → Type 0
IsFront text file = MatchOption file (text ≡ []) (λ bytes. bytes ≡ text ++ drop (length text) bytes)

-- the text is what was read so far of the file with this name, if the shelf tells
unfoldable pub IsReadSoFar : Option Files → List ℕ → List ℕ → Type 0
IsReadSoFar told name text = IfSome told (λ files. IsFront text (file_of files name))

-- A read that gives no bytes comes at the end: what was read so far of the file is all of it.
abbrev pub IsReadToEnd : Option Files → List ℕ → List ℕ → List ℕ → ℕ → Type 0
IsReadToEnd told name before text count = count ≡ 0 → IsReadSoFar told name before → IfSome told (HasFile name text)
