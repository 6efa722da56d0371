use Rattle.std.proofs.Common.{arith}
use Rattle.safl_core.proofs.refresh.between.Goals as goal

pub returns-clause-all : goal.returns-clause-all
returns-clause-all c = λ k le is. (is.0, omega (arith, is.1, le, c.min.ensures, c.sites.ensures))
