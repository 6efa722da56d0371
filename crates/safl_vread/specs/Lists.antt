-- Lists of names.
use Rattle.std.specs.Prelude.{ℕ, List, [], ◌∷◌, ◌++◌, map, Bool, if◌then◌else◌}
use Rattle.std.specs.Borrow.{Bor}
use Rattle.std.specs.List.{list_any}
use Rattle.std.specs.Str.{bytes_eq}
use Rattle.safl_verilog.specs.Files.{Spot, Declaration}
use Rattle.safl_verilog.specs.Faults.{range_width}
use Rattle.safl_verilog.specs.FaultParts.{declared_names}

-- the names to which references point
abbrev pub shown_keys : List (Bor (List ℕ)) → List (List ℕ)
shown_keys ks = map (λ (k : Bor (List ℕ)). k.now) ks

abbrev pub bytes_of_all : List Spot → List (List ℕ)
bytes_of_all xs = map (λ (x : Spot). x.bytes) xs

-- whether a name is in the list
abbrev pub has : List (List ℕ) → List ℕ → Bool
has names name = list_any (bytes_eq name) names

-- the list with one more name, if that is new
abbrev pub with_new : List (List ℕ) → List ℕ → Bool → List (List ℕ)
with_new names name new = if new then names ++ name ∷ [] else names

-- the names and the widths of declarations
abbrev pub names_of : List Declaration → List (List ℕ)
names_of ds = bytes_of_all (declared_names ds)

abbrev pub widths_of : List Declaration → List ℕ
widths_of ds = map (λ (d : Declaration). range_width d.range) ds
