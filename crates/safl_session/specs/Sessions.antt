-- What a session holds.
use Rattle.std.specs.Prelude.{ℕ, List, Bool}
use Rattle.safl_net.specs.Netlist.{Netlist}

-- the net of a session, the state of its registers by the numbers of signals, and whether it can be called again
pub record Opened : Type 0 where
  pub net : Netlist
  pub state : List ℕ
  pub is_open : Bool
