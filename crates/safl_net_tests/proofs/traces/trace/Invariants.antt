use Rattle.std.proofs.Common.{◌≡◌}
use Rattle.safl_probe.specs.Watching.{shape_of}
use Rattle.safl_probe.specs.Probing.{IsWatching}
use Rattle.safl_net_tests.proofs.traces.trace.Given as goal

abbrev pub invariant-frames : goal.invariant-frames
invariant-frames g l = record {
  watching : IsWatching (g.P.Probe.state l.probe);
  shape : (g.P.Probe.state l.probe).shape ≡ shape_of (g.P.Probe.state l.probe).kind l.net;
  turn : (g.P.Probe.state l.probe).turn ≡ l.i;
}
