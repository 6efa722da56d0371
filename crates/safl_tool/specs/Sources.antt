-- Which sources are accepted, and what they are compiled to.
use Rattle.std.specs.Prelude.{◌≡◌, ℕ, List}
use Rattle.safl_net.specs.Netlist.{Netlist}
use Rattle.safl_net.specs.Rules.{IsNetlist}
use Rattle.safl_net.specs.Whole.{IsWhole}
use Rattle.safl_net.specs.Arranged.{IsInOrder}
use Rattle.safl_net.specs.Arguments.{argument_widths}
use Rattle.safl_term.specs.Program.{Program}
use Rattle.safl_term.specs.Names.{Names}
use Rattle.safl_compiler.specs.Sources.{IsSourceOf}
use Rattle.safl_compiler.specs.Circuits.{IsCircuitOf}

-- the source is accepted
abbrev pub IsAccepted : List ℕ → Type 0
IsAccepted source = (C : Program) × (D : Names) × IsSourceOf source C D

-- The source spells a program, and the netlist is its circuit, which is whole and in order. The inputs of the netlist other than
-- `start` are main's parameters.
pub record IsCompiled (source : List ℕ) (n : Netlist) : Type 0 where
  pub program : Program
  pub names : Names
  pub source_of : IsSourceOf source program names
  pub circuit : IsCircuitOf program names n
  pub made : IsNetlist n
  pub whole : IsWhole n
  pub in_order : IsInOrder n
  pub params : argument_widths n.signals ≡ program.params program.main
