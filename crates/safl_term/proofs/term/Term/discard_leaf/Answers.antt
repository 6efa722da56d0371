use Rattle.std.proofs.Common.{refl}
use Rattle.safl_term.proofs.Dismantling.{two}
use Rattle.safl_term.proofs.term.Term.discard_leaf.Goals as goal

pub returns-in_default : goal.returns-in_default
returns-in_default c = (refl, two c.args.self c.in_default.not-Const c.in_default.not-Var)
