use Rattle.safl_word.proofs.LowBits.{low_of_difference}
use Rattle.safl_word.proofs.narrow.difference.Goals as goal

pub returns : goal.returns
returns c = let e = low_of_difference c.args.a c.args.b c.args.width c.requires.narrow c.requires.fits in cc
