use Rattle.safl_aig.proofs.Common.{signal_weight, summed, ◌*◌, ◌≡◌, ◌≤◌}
use Rattle.safl_aig.proofs.weights.signals_weight.Given as goal

abbrev pub invariant-signals : goal.invariant-signals
invariant-signals l = record {
  sum : l.sum ≡ summed (signal_weight l.net) l.i;
  few : l.sum ≤ 16384 * l.i;
}
