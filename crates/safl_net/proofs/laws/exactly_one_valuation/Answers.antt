use Rattle.safl_net.proofs.Existence.{exactly_one}
use Rattle.safl_net.proofs.laws.exactly_one_valuation.Goals as goal

pub returns : goal.returns
returns c = exactly_one
