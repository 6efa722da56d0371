use Rattle.safl_word.proofs.LowBits.{greatest_is}
use Rattle.safl_word.proofs.narrow.greatest.Goals as goal

pub returns : goal.returns
returns c = greatest_is c.args.width c.requires.narrow
