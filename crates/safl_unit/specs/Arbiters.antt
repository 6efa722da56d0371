-- Arbiters, which decide among the sites of a unit.
use Rattle.std.specs.Prelude.{◌≡◌, ℕ, zero, suc, ◌<◌, ◌==◌, List, [], ◌∷◌, ◌++◌, length, map, Some, Vec, true, not, cond, slice_get}
use Rattle.std.specs.Global.{Global}
use Rattle.safl_term.specs.Program.{Program, unit_for}
use Rattle.safl_net.specs.declared.cell.Sig.{Sig}
use Rattle.safl_net.specs.Netlist.{Netlist}
use Rattle.safl_net.specs.Growth.{Val, Wired}
use Rattle.safl_net.specs.Bits.{on}
use Rattle.safl_sites.specs.Plan.{Choice}
use Rattle.safl_lower.specs.declared.loads.Load.{Load}
use Rattle.safl_lower.specs.Tables.{bit_or}
use Rattle.safl_lower.specs.Rows.{AreBits, frees, row_at}
use Rattle.safl_unit.specs.declared.pins.UnitPins.{UnitPins}
use Rattle.safl_unit.specs.declared.pins.Pins.{Pins}

-- the bit of load i
abbrev pub want_at : List Load → ℕ → Sig
want_at ls k = bit_or (record { 0 = 0 }) (slice_get ls k)

-- the bits of the sites up to number m that call unit u
unfoldable pub site_row : Program → List Load → ℕ → ℕ → List Sig
site_row C ls u zero = []
site_row C ls u (suc m) = site_row C ls u m ++ cond (u == unit_for C (suc m)) (want_at ls (suc m) ∷ []) []

-- the rank of a site is the number of sites of its unit before it
abbrev pub AreRanks : Program → List Load → List ℕ → Type 0
AreRanks C ls ranks = (m : ℕ) (q : ℕ) → slice_get ranks (suc m) ≡ Some q → q ≡ length (site_row C ls (unit_for C (suc m)) m)

-- the rows of units up to number m: for each site of a unit with an arbiter, whether the unit rests and no site before it wants
pub record RowsFree (C : Program) (P : Choice) (n : Netlist) (us : List UnitPins) (rows out : List (Vec Sig Global)) (m : ℕ) : Type 0 where
  pub count : length out ≡ m
  pub fits : (u : ℕ) → AreBits n (row_at out u)
  pub long : (u : ℕ) → u < m → P.arbiter (C.unit u) ≡ true → length (row_at out u) ≡ length (row_at rows u)
  pub shows : (v : Val) → Wired n v → (u : ℕ) (x : UnitPins) → u < m → slice_get us u ≡ Some x → P.arbiter (C.unit u) ≡ true
      → map (on v) (row_at out u) ≡ frees v (not (on v x.run)) (row_at rows u)

-- the rows of all units
abbrev pub AllRowsFree : Program → Choice → Netlist → Pins → List (Vec Sig Global) → List (Vec Sig Global) → Type 0
AllRowsFree C P n p rows out = RowsFree C P n p.bank.units.items rows out C.functions
