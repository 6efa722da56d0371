use Rattle.std.proofs.Common.{◌*◌}
use Rattle.safl_word.proofs.LowBits.{low_of_low}
use Rattle.safl_word.proofs.narrow.product.Goals as goal

pub returns : goal.returns
returns c = let e = low_of_low (c.args.a * c.args.b) c.args.width c.requires.narrow in cc
