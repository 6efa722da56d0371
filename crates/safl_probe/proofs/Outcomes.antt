-- Runs have outcomes: the first cycle in which `done` is 1, if there is one.
use Rattle.safl_net.specs.Valuations.{reset_state}
use Rattle.safl_sim.specs.Existence.{OneRunExists}
use Rattle.safl_sim.proofs.Existence.{reset_fits}
use Rattle.safl_run.proofs.OneAnswer.{answered, outcome}
use Rattle.safl_probe.specs.Ending.{RunsEnd}

pub runs_end : OneRunExists → RunsEnd
runs_end one n made whole acyclic args words are limit =
    let r = one n made whole acyclic args words are limit in
    let a = answered n made whole acyclic limit (reset_state n) (reset_fits n made) args words are in
    record { run = r.0; is_run = record { run = r.1.is; long = r.1.long }; answer = a.0; outcome = outcome n made whole acyclic args limit a.0 a.1 a.2 }
