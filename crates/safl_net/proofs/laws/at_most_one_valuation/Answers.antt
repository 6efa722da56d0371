use Rattle.safl_net.proofs.OneValuation.{one_valuation}
use Rattle.safl_net.proofs.laws.at_most_one_valuation.Goals as goal

pub returns : goal.returns
returns c = one_valuation
