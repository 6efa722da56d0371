-- The lines that say why a file was not read or written, or why nothing was printed, as `Stops` has them, by name. Each ends with its line feed.
use Rattle.std.specs.Prelude.{ℕ, List, ◌++◌, codes}
use Rattle.std.specs.Fmt.{decimal}

abbrev pub memory_line : List ℕ
memory_line = codes "out of memory\n"

abbrev pub read_line : List ℕ → List ℕ
read_line name = codes "cannot read " ++ name ++ codes "\n"

abbrev pub write_line : List ℕ → List ℕ
write_line name = codes "cannot write " ++ name ++ codes "\n"

abbrev pub long_line : List ℕ → ℕ → List ℕ
long_line name limit = name ++ codes " is longer than " ++ decimal limit ++ codes " bytes\n"

abbrev pub output_line : List ℕ
output_line = codes "cannot write output\n"
