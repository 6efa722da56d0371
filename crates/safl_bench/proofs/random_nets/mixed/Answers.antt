use Rattle.std.proofs.Common.{codes, refl}
use Rattle.safl_bench.proofs.Wires.{shown_tidy}
use Rattle.safl_bench.proofs.random_nets.mixed.Goals as goal

pub returns-clause-tidy : goal.returns-clause-tidy
returns-clause-tidy c = shown_tidy c.wires.net c.output.new.self (codes "o") c.wires.last.0 c.in-Ok-output.ensures.added refl c.wires.invariant.bits.tidy
