use Rattle.safl_word.proofs.LowBits.{side_by_side}
use Rattle.safl_word.proofs.narrow.concatenation.Goals as goal

pub returns : goal.returns
returns c = side_by_side c.args.a c.args.b c.args.width c.args.other c.requires.first c.requires.second c.requires.narrow
