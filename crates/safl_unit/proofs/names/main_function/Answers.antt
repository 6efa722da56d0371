use Rattle.std.proofs.Common.{arith}
use Rattle.safl_unit.proofs.layout.Pinning.{main_is}
use Rattle.safl_unit.proofs.names.main_function.Goals as goal

pub returns-clause-number : goal.returns-clause-number
returns-clause-number c = main_is c.args.c.now c.functions.result c.functions.ensures.count

pub returns-clause-within : goal.returns-clause-within
returns-clause-within c = let e = c.functions.ensures.count in let m = c.functions.ensures.checked.formed.main_in in omega (arith, e, m)
