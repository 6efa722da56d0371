use Rattle.safl_word.proofs.Widths.{apply_width}
use Rattle.safl_word.proofs.Fits.{apply_fits}
use Rattle.safl_word.proofs.laws.primitive_law.Goals as goal

pub returns : goal.returns
returns c = λ o vs n w e. (apply_fits o vs n w e, apply_width o vs n e)
