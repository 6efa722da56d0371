use Rattle.safl_word.proofs.Arith.{greatest_is}
use Rattle.safl_word.proofs.word.greatest.Goals as goal

pub returns : goal.returns
returns c = greatest_is c.args.width c.requires.bounded
