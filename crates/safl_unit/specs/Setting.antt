-- Setting registers and wires, one after another.
use Rattle.std.specs.Prelude.{◌≡◌, ℕ, suc, ◌<◌, List, [], ◌∷◌, ◌++◌, map, Some, length, cond, codes}
use Rattle.safl_term.specs.Names.{Names}
use Rattle.safl_sites.specs.Plan.{Choice}
use Rattle.safl_term.specs.Program.{Program}
use Rattle.safl_net.specs.declared.cell.Sig.{Sig}
use Rattle.safl_net.specs.declared.cell.Op.TheVariants.{Copy}
use Rattle.safl_net.specs.Netlist.{Netlist, Signal, Kind, Reg, Wire, width_of}
use Rattle.safl_net.specs.Making.{with_kind, kind_at, cell_on}
use Rattle.safl_net.specs.Growth.{Says}
use Rattle.safl_net.specs.Settled.{Settles}
use Rattle.safl_circuit.specs.Equations.{many}
use Rattle.safl_circuit.specs.Names.{of_function}
use Rattle.safl_circuit.specs.Layout.{layout_inputs}
use Rattle.safl_unit.specs.declared.pins.Bank.{Bank}
use Rattle.safl_unit.specs.declared.pins.Pins.{Pins}
use Rattle.safl_unit.specs.declared.pins.Controls.{Controls}
use Rattle.safl_unit.specs.Ties.{Tie, ties, function_ties, register_ties, wire_ties}
use Rattle.safl_unit.specs.Finished.{input_line, declared_signals, set_register, set_wire}

-- the net with these kinds for the signals from a number on
abbrev pub with_kinds : Netlist → ℕ → List Kind → Netlist
with_kinds n t [] = n
with_kinds n t (k ∷ ks) = with_kinds (with_kind n t k) (suc t) ks

-- the kind of a register with this next signal; and of a copy of this signal
abbrev pub next_kind : Sig → Kind
next_kind s = Reg 0 (Some s.0)

abbrev pub copy_kind : Sig → Kind
copy_kind s = Wire (Some (cell_on Copy (s ∷ [])))

-- signal t has this kind, and s has its width
pub record Takes (n : Netlist) (t : ℕ) (k : Kind) (s : Sig) : Type 0 where
  pub kind : kind_at n t ≡ k
  pub known : s.0 < length n.signals
  pub width : width_of n s.0 ≡ width_of n t

-- the register `at` of a function
abbrev pub at_ties : Program → Names → ℕ → Sig → List Tie
at_ties C D f s = cond (many C f) (((of_function D (codes "at$") f, 1), s) ∷ []) []

-- the registers of a function
abbrev pub bank_ties : Program → Names → Bank → ℕ → List Tie
bank_ties C D b f = function_ties C D b.units.items b.members.items f

-- the registers of all functions
abbrev pub own_ties : Program → Names → Bank → List Tie
own_ties C D b = ties (function_ties C D b.units.items b.members.items) C.functions

-- all registers have their next signals, and all named wires copy theirs
pub record IsSet (C : Program) (D : Names) (P : Choice) (p : Pins) (next : Bank) (T : Controls) (old new : Netlist) : Type 0 where
  pub more : List Signal
  pub before : old.signals ≡ declared_signals C D P ++ more
  pub signals : new.signals ≡ (map input_line (layout_inputs C D) ++ (map set_register (register_ties C D P next)
      ++ map set_wire (wire_ties C D P p.first_wire T))) ++ more
  pub outputs : new.outputs ≡ []
  pub count : length new.signals ≡ length old.signals
  pub names : map (λ g. g.name) new.signals ≡ map (λ g. g.name) old.signals
  pub settles : Settles old new
  pub says : Says old new
