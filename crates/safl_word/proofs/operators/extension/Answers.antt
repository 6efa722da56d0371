use Rattle.safl_word.proofs.Common.{arith, pow_mono}
use Rattle.safl_word.proofs.operators.extension.Goals as goal

pub from_parts-requires : goal.from_parts-requires
from_parts-requires c = record { some = omega arith; bounded = omega arith; fits = omega (arith, pow_mono c.requires.wider, c.bits.ensures.word.fits) }
