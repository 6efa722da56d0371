use Rattle.safl_aig.proofs.Common.{output_weight, summed, ◌*◌, ◌≡◌, ◌≤◌}
use Rattle.safl_aig.proofs.weights.outputs_weight.Given as goal

abbrev pub invariant-outputs : goal.invariant-outputs
invariant-outputs l = record {
  sum : l.sum ≡ summed (output_weight l.net) l.i;
  few : l.sum ≤ 16384 * l.i;
}
