use Rattle.safl_bits.proofs.Numbers.{tell}
use Rattle.safl_bits.proofs.laws.bits_tell_law.Goals as goal

pub returns : goal.returns
returns c = tell
