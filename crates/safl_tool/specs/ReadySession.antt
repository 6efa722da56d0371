-- A session before its first call.
use Rattle.std.specs.Prelude.{◌≡◌, ℕ, List, true}
use Rattle.safl_net.specs.Netlist.{Netlist}
use Rattle.safl_net.specs.Arguments.{argument_widths}
use Rattle.safl_sim.specs.Places.{resets}
use Rattle.safl_session.specs.Scripts.{IsScript}
use Rattle.safl_tool.specs.Sources.{IsCompiled}
use Rattle.safl_tool.specs.declared.session.ReadySession as code

-- the session is that of a netlist that the source is compiled to, at reset, and its calls are those of the script
pub record IsReadySession (source script : List ℕ) (o : code.ReadySession) : Type 0 where
  pub net : Netlist
  pub compiled : IsCompiled source net
  pub fresh : o.session ≡ record { net = net; state = resets net; is_open = true }
  pub calls : IsScript (argument_widths net.signals) script o.calls
