use Rattle.std.proofs.Common.{suc, arith}
use Rattle.safl_aiger.proofs.Evaluating.{alone}
use Rattle.safl_aiger.proofs.laws.one_fit_law.Goals as goal

pub returns : goal.returns
returns c = λ a k state given m n f g v h. alone a k state given m n f g (suc v) v (omega arith) h
