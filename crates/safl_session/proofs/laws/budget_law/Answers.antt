use Rattle.safl_session.proofs.Serving.{budgets_in_time}
use Rattle.safl_session.proofs.laws.budget_law.Goals as goal

pub returns : goal.returns
returns c = budgets_in_time
