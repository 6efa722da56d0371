-- The circuit of a program.
use Rattle.safl_term.specs.Program.{Program}
use Rattle.safl_net.specs.Netlist.{Netlist}
use Rattle.safl_sites.specs.Plan.{IsPlan, Choice}
use Rattle.safl_term.specs.Names.{Names}
use Rattle.safl_circuit.specs.Layout.{HasPlan}
use Rattle.safl_circuit.specs.Scheme.{Scheme}
use Rattle.safl_circuit.specs.Theorem.{IsCircuit}

-- The netlist has exactly the arbiters and kept words of the program's plan: no other registers and named wires. Each cycle is as
-- the equations say, and in its runs the netlist computes what the program means.
pub record IsCircuitOf (C : Program) (D : Names) (n : Netlist) : Type 0 where
  pub choice : Choice
  pub plan : IsPlan C choice.arbiter choice.kept
  pub laid : HasPlan C D choice n
  pub scheme : Scheme C D choice n
  pub circuit : IsCircuit C D choice n
