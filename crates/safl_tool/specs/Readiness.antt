-- Simulators that are ready to run.
use Rattle.std.specs.Prelude.{◌≡◌, ℕ, List}
use Rattle.safl_net.specs.Netlist.{Netlist}
use Rattle.safl_net.specs.Arguments.{argument_widths}
use Rattle.safl_sim.specs.Places.{resets}
use Rattle.safl_session.specs.Lines.{AreArguments}
use Rattle.safl_tool.specs.Sources.{IsCompiled}
use Rattle.safl_tool.specs.declared.ready.Ready.{Ready}

-- a simulator of the net at reset, and the words that the arguments are read as
pub record IsReady (n : Netlist) (args : List (List ℕ)) (r : Ready) : Type 0 where
  pub net : r.sim.net ≡ n
  pub fresh : r.sim.state ≡ resets n
  pub read : AreArguments (argument_widths n.signals) args r.words.items

-- the net of the simulator is the circuit of the source
pub record IsReadyOf (source : List ℕ) (args : List (List ℕ)) (r : Ready) : Type 0 where
  pub net : Netlist
  pub compiled : IsCompiled source net
  pub ready : IsReady net args r
