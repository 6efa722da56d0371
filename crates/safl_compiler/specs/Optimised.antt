-- The optimised circuit of a program.
use Rattle.std.specs.Prelude.{◌≡◌, ℕ, Some, false}
use Rattle.safl_term.specs.Program.{Program}
use Rattle.safl_term.specs.Names.{Names}
use Rattle.safl_net.specs.Netlist.{Netlist, Cell, Wire}
use Rattle.safl_net.specs.Names.{is_temp}
use Rattle.safl_net.specs.Making.{kind_at, name_at}
use Rattle.safl_net.specs.Mirrors.{KeepsWire}
use Rattle.safl_opt.specs.Lean.{Lean}
use Rattle.safl_opt.specs.Smaller.{IsSmaller}
use Rattle.safl_compiler.specs.Circuits.{IsCircuitOf}

-- The netlist is lean, and has the named wires of a circuit of the program, each with its operator and its named operands.
pub record IsOptimisedOf (C : Program) (D : Names) (n : Netlist) : Type 0 where
  pub first : Netlist
  pub circuit : IsCircuitOf C D first
  pub wires : (s : ℕ) (c : Cell) → kind_at first s ≡ Wire (Some c) → is_temp (name_at first s) ≡ false → KeepsWire first n (name_at first s) c
  pub lean : Lean n

-- the netlist is the smaller one of a circuit of the program
abbrev pub IsSmallerOf : Program → Names → Netlist → Type 0
IsSmallerOf C D n = (first : Netlist) × IsCircuitOf C D first × IsSmaller first n
