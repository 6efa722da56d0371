use Rattle.safl_bench.proofs.Growing.{turned}
use Rattle.safl_bench.proofs.turns.turn.Goals as goal

pub returns : goal.returns
returns c = turned c.in_ok-chosen.chosen c.in_ok-chosen.ensures c.in_ok-last.ensures
