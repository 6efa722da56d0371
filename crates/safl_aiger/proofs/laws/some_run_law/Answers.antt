use Rattle.safl_aiger.specs.Circuits.{latches}
use Rattle.safl_aiger.specs.Runs.{all_false}
use Rattle.safl_aiger.proofs.Evaluating.{run, false_long}
use Rattle.safl_aiger.proofs.laws.some_run_law.Goals as goal

pub returns : goal.returns
returns c = λ a k xs h. run a k (all_false (latches a)) (false_long (latches a)) xs h
