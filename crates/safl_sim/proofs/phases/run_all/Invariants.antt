use Rattle.std.proofs.Common.{◌≡◌, drop}
use Rattle.safl_sim.specs.Writes.{after_steps, AllReady}
use Rattle.safl_sim.proofs.phases.run_all.Given as goal

abbrev pub invariant-steps : goal.invariant-steps
invariant-steps l = record {
  ready : AllReady (drop l.s-index l.steps) l.values;
  after : after_steps (drop l.s-index l.steps) l.values ≡ after_steps l.steps l.initial.values;
}
