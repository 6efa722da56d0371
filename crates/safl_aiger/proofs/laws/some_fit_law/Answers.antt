use Rattle.safl_aiger.proofs.Evaluating.{fit}
use Rattle.safl_aiger.proofs.laws.some_fit_law.Goals as goal

pub returns : goal.returns
returns c = fit
