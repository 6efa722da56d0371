-- Which probes are asked, and for which files.
use Rattle.std.specs.Prelude.{ℕ, ◌≡◌, List, map, Option, Some, None, option_map, get_or, string_bytes}
use Rattle.std.specs.declared.string.String.{String}
use Rattle.std.specs.declared.alloc.Global.{Global}
use Rattle.safl_probe.specs.Probing.{ProbeState, IsWaiting, fresh}

-- for each probe the name of the file that it is asked to write, if it is asked
abbrev pub Asked : Type 0
Asked = List (Option (List ℕ))

-- these names, as the code has them
abbrev pub FileNames : Type 0
FileNames = List (Option (String Global))

abbrev pub asked : FileNames → Asked
asked files = map (option_map string_bytes) files

-- the probe at this place is asked to write the file with this name
abbrev pub IsAsked : Asked → ℕ → List ℕ → Type 0
IsAsked names i name = get_or names i None ≡ Some name

-- no probe is asked to write the file with this name
abbrev pub IsUnnamed : Asked → List ℕ → Type 0
IsUnnamed names name = (i : ℕ) → IsAsked names i name → ⊥

-- no probe is asked
abbrev pub NoneAsked : Asked → Type 0
NoneAsked names = (name : List ℕ) → IsUnnamed names name

-- no two probes are asked to write the same file
abbrev pub AreApart : Asked → Type 0
AreApart names = (i j : ℕ) (name : List ℕ) → IsAsked names i name → IsAsked names j name → i ≡ j

-- what the probe at this place tells
abbrev pub probe_at : List ProbeState → ℕ → ProbeState
probe_at ps i = get_or ps i (fresh 0)

-- no probe has begun
abbrev pub Unbegun : {P : Type 0} → (P → ProbeState) → List P → Type 0
Unbegun tell ps = (i : ℕ) → IsWaiting (probe_at (map tell ps) i)

-- probes that are not asked are as they were
abbrev pub SameUnasked : {P : Type 0} → Asked → List P → List P → Type 0
SameUnasked {P} names old new = (i : ℕ) → get_or names i None ≡ None → (p : P) → get_or new i p ≡ get_or old i p
