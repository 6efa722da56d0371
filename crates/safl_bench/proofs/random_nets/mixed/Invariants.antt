use Rattle.std.proofs.Common.{◌≡◌, ◌≤◌, ◌<◌, ◌+◌, [], length}
use Rattle.safl_bench.specs.Bits.{OfBits}
use Rattle.safl_bench.proofs.random_nets.mixed.Given as goal

abbrev pub invariant-wires : goal.invariant-wires
invariant-wires l = record {
  bits : OfBits l.net;
  few : length l.net.signals ≤ l.i + 1;
  last : l.last.0 < length l.net.signals;
  bare : l.net.outputs ≡ [];
}
