-- The names of files for traces, and when they differ.
use Rattle.std.specs.Prelude.{ℕ, List, [], Option, Some, String, Bool, true, false, not, ◌&&◌, bytes_eq, option_map, string_bytes}
use Rattle.std.specs.declared.alloc.Global.{Global}

-- the names of the files for each kind of trace; each may be left out
pub record Traces : Type 0 where
  pub vcd : Option (List ℕ)
  pub starts : Option (List ℕ)
  pub toggles : Option (List ℕ)

-- the traces with these names
abbrev pub files : Option (String Global) → Option (String Global) → Option (String Global) → Traces
files vcd starts toggles = record { vcd = option_map string_bytes vcd; starts = option_map string_bytes starts; toggles = option_map string_bytes toggles }

-- the name, if it is given, is not empty
abbrev pub is_named : Option (List ℕ) → Bool
is_named (Some []) = false
is_named _ = true

-- the names are not both given and equal
abbrev pub differ : Option (List ℕ) → Option (List ℕ) → Bool
differ (Some first) (Some second) = not (bytes_eq first second)
differ _ _ = true

-- no name is empty, and no two are equal
abbrev pub are_apart : Traces → Bool
are_apart t =
    is_named t.vcd && (is_named t.starts && (is_named t.toggles && (differ t.vcd t.starts && (differ t.vcd t.toggles && differ t.starts t.toggles))))
