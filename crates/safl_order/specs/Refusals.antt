-- Why a net has no order.
use Rattle.std.specs.Prelude.{◌≡◌}
use Rattle.safl_net.specs.Netlist.{Netlist, AllSet}
use Rattle.safl_net.specs.Making.{numbers}
use Rattle.safl_net.specs.Whole.{IsLeastUnset}
use Rattle.safl_order.specs.declared.ordered.OrderErr.{OrderErr}
use Rattle.safl_order.specs.declared.ordered.OrderErr.TheVariants.{Loop, Unset, NoMemory}
use Rattle.safl_order.specs.Order.{IsLoop}

-- The error hands the net back. It says that something is unset exactly if it is, and shows a loop if there is one.
abbrev pub RefusesOrder : Netlist → OrderErr → Type 0
RefusesOrder n (Loop ws m) = (m ≡ n) × AllSet n × IsLoop n (numbers ws.items)
RefusesOrder n (Unset s m) = (m ≡ n) × IsLeastUnset n s.0
RefusesOrder n (NoMemory m) = (m ≡ n) × AllSet n
