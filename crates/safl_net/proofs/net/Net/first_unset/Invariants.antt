use Rattle.std.proofs.Common.{ℕ, ◌<◌}
use Rattle.safl_net.specs.Netlist.{IsSet}
use Rattle.safl_net.specs.Making.{kind_at}
use Rattle.safl_net.proofs.net.Net.first_unset.Given as goal

abbrev pub invariant-signals : goal.invariant-signals
invariant-signals l = (t : ℕ) → t < l.i → IsSet (kind_at l.self t)
