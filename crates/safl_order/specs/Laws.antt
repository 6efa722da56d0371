-- The laws of loops.
use Rattle.std.specs.Prelude.{ℕ, List}
use Rattle.safl_net.specs.Netlist.{Netlist}
use Rattle.safl_net.specs.Valuations.{IsAcyclic}
use Rattle.safl_order.specs.Order.{IsLoop}

-- a net with a loop has no ranks that rise from operands to wires
abbrev pub LoopsAreCyclic : Type 0
LoopsAreCyclic = (n : Netlist) (ws : List ℕ) → IsLoop n ws → ¬ (IsAcyclic n)
