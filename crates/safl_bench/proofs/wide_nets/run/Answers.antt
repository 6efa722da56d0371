use Rattle.std.proofs.Common.{[], ◌∷◌, ap}
use Rattle.safl_bench.proofs.wide_nets.run.Goals as goal

pub tick-requires : goal.tick-requires
tick-requires c = c.ticks.invariant.takes.takes (c.spread.result ∷ []) (ap (λ w. w ∷ []) c.spread.ensures)
