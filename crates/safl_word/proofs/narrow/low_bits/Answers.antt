use Rattle.safl_word.proofs.narrow.low_bits.Goals as goal
use Rattle.safl_word.proofs.Arith.{masked}

pub returns : goal.returns
returns c = masked c.args.number _ _ c.greatest.ensures
