use Rattle.std.proofs.Common.{◌≡◌, ◌<◌, List, length, slice_index}
use Rattle.safl_word.specs.Words.{Word}
use Rattle.safl_net.specs.Valuations.{Valuation}
use Rattle.safl_sim.specs.Places.{HasWords}
use Rattle.safl_run.specs.Steps.{IsCalled, IsGoing}
use Rattle.safl_run.proofs.harness.run_called.Given as goal

abbrev pub invariant-cycles : goal.invariant-cycles
invariant-cycles l = record {
  net : l.sim.net ≡ l.fn.sim.net;
  frames : List Valuation;
  count : length frames ≡ l.cycle;
  going : (args : List Word) → IsCalled l.fn.sim.net args l.harness → IsGoing l.fn.sim.net (slice_index l.fn.sim.state) args frames (slice_index l.sim.state);
  given : 1 < l.cycle → HasWords l.sim.net l.sim.values l.harness.room.later.items;
}
