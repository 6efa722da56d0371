use Rattle.std.proofs.Common.{arith}
use Rattle.safl_typing.specs.Heads.{heads}
use Rattle.safl_typing.proofs.Consequences.{units_alone}
use Rattle.safl_typing.proofs.laws.alone_law.Goals as goal

pub returns : goal.returns
returns c = λ ds form n f no h e. omega (arith, units_alone (heads ds) 0 0 0 1 _ ds form.functions n f no h.functions e)
