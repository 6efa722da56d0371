use Rattle.std.proofs.Common.{arith, ◌*◌}
use Rattle.safl_word.proofs.Arith.{low_of_low}
use Rattle.safl_word.proofs.operators.product.Goals as goal

pub returns : goal.returns
returns c = let e = low_of_low (c.args.a.bits * c.args.b.bits) c.args.a.width (omega arith) in cc
