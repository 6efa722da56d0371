use Rattle.std.proofs.Common.{◌≤◌, ◌+◌, ◌*◌, length}
use Rattle.safl_net.specs.Names.{IsTidy}
use Rattle.safl_net.specs.Growth.{Grows}
use Rattle.safl_bench.specs.WideNets.{Has}
use Rattle.safl_bench.proofs.wide_nets.chain.Given as goal

abbrev pub invariant-turns : goal.invariant-turns
invariant-turns l = record {
  tidy : IsTidy l.net;
  grows : Grows l.initial.net l.net;
  few : length l.net.signals ≤ length l.initial.net.signals + 6 * l.i;
  input : Has l.net l.width l.input;
  last : Has l.net l.width l.ends.last;
  other : Has l.net l.width l.ends.other;
}
