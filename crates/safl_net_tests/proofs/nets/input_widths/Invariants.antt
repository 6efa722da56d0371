use Rattle.std.proofs.Common.{◌≡◌, ◌++◌, map}
use Rattle.safl_net.specs.Netlist.{width_of}
use Rattle.safl_sim.specs.Places.{inputs_of}
use Rattle.safl_net_tests.proofs.Inputs.{rest_widths}
use Rattle.safl_net_tests.proofs.nets.input_widths.Given as goal

abbrev pub invariant-signals : goal.invariant-signals
invariant-signals l = l.widths.items ++ rest_widths l.net l.i ≡ map (width_of l.net) (inputs_of l.net)
