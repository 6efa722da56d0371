-- Which declarations are those of signals, and the signals' numbers.
use Rattle.std.specs.Prelude.{◌≡◌, ℕ, ◌<◌, List, ◌++◌, map, filter, length, Bool, false, true, Some, slice_get, slice_index}
use Rattle.safl_verilog.specs.declared.token.Sort.{Sort}
use Rattle.safl_verilog.specs.declared.token.Sort.TheVariants as sorts
use Rattle.safl_verilog.specs.Files.{Declaration}
use Rattle.safl_verilog.specs.Faults.{is_data, is_reg, is_wire, is_signal}
use Rattle.safl_verilog.specs.Netlists.{signals_of, signal_number}

-- whether a declaration is that of a signal of this sort
abbrev pub is_of : Sort → Declaration → Bool
is_of sorts.Input d = is_data d
is_of sorts.Output d = false
is_of sorts.Reg d = is_reg d.sort
is_of sorts.Wire d = is_wire d.sort

-- the places of the declarations of signals, in the order of the signals' numbers
abbrev pub IsOrder : List Declaration → List ℕ → Type 0
IsOrder ds order = map (slice_get ds) order ≡ map Some (signals_of ds)

-- the places of the signals of this sort come after the places before
abbrev pub AddsPlaces : List Declaration → Sort → (before after : List ℕ) → Type 0
AddsPlaces ds sort before after = map (slice_get ds) after ≡ map (slice_get ds) before ++ map Some (filter (is_of sort) ds)

-- For each declaration there is a number of a signal. If the declaration is that of a signal, it is the number of this signal.
pub record AreNumbers (ds : List Declaration) (order numbers : List ℕ) : Type 0 where
  pub full : length numbers ≡ length ds
  pub each : (p : ℕ) (d : Declaration) → slice_get ds p ≡ Some d → is_signal d ≡ true → slice_index numbers p ≡ signal_number ds d.name.bytes
  pub back : (p : ℕ) (d : Declaration) → slice_get ds p ≡ Some d → is_signal d ≡ true → slice_get order (slice_index numbers p) ≡ Some p
  pub known : (p : ℕ) → slice_index numbers p < length (signals_of ds)
