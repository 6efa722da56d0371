use Rattle.safl_probe.proofs.Common.{HasWidths, Word, get_or, map, ℕ, ◌<◌, ◌≡◌}
use Rattle.safl_probe.proofs.room.fill.Given as goal

abbrev pub invariant-signals : goal.invariant-signals
invariant-signals l = record {
  values : (k : ℕ) → k < l.i → get_or (map (λ (w : Word). w.bits) l.frame) k 0 ≡ get_or l.sim.values k 0;
  frame : HasWidths l.sim.net l.frame;
}
