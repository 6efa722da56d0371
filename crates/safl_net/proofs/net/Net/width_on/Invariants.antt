use Rattle.std.proofs.Common.{◌≡◌, take}
use Rattle.safl_net.specs.Making.{numbers, signal_widths}
use Rattle.safl_net.proofs.net.Net.width_on.Given as goal

abbrev pub invariant-loop-s : goal.invariant-loop-s
invariant-loop-s l = l.widths.items ≡ signal_widths l.self (numbers (take l.s-index l.operands))
