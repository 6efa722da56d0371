use Rattle.std.proofs.Common.{◌≡◌, ◌++◌, drop}
use Rattle.safl_net.specs.Arguments.{argument_widths}
use Rattle.safl_net.proofs.arguments.argument_widths.Given as goal

abbrev pub invariant-signals : goal.invariant-signals
invariant-signals l = l.widths.items ++ argument_widths (drop l.i l.net.signals) ≡ argument_widths l.net.signals
