use Rattle.safl_aiger.proofs.ReadOnce.{one_reading}
use Rattle.safl_aiger.proofs.laws.one_reading_law.Goals as goal

pub returns : goal.returns
returns c = one_reading
