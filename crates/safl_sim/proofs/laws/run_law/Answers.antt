use Rattle.safl_sim.proofs.Existence.{runs_exist, reset_fits, one_run_exists}
use Rattle.safl_sim.proofs.laws.run_law.Goals as goal

pub returns-clause-exist : goal.returns-clause-exist
returns-clause-exist c = runs_exist

pub returns-clause-reset : goal.returns-clause-reset
returns-clause-reset c = reset_fits

pub returns-clause-one : goal.returns-clause-one
returns-clause-one c = one_run_exists
