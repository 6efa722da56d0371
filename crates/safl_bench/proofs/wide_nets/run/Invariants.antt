use Rattle.std.proofs.Common.{◌<◌, length}
use Rattle.safl_bench.specs.WideNets.{TakesOne}
use Rattle.safl_bench.proofs.wide_nets.run.Given as goal

abbrev pub invariant-ticks : goal.invariant-ticks
invariant-ticks l = record {
  takes : TakesOne l.sim.net l.width;
  last : l.last.0 < length l.sim.net.signals;
}
