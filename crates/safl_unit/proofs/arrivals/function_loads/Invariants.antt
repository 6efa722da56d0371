use Rattle.safl_unit.proofs.Common.{gate, load_joins, on, operands_in, pin, slice_get, total, ◌&&◌, ◌*◌, ◌==◌, ◌≤◌}
use Rattle.safl_calls.specs.Picks.{first}
use Rattle.safl_unit.proofs.equations.Chains.{LoadRows}
use Rattle.safl_unit.proofs.arrivals.function_loads.Given as goal

abbrev pub invariant-loop-k : goal.invariant-loop-k
invariant-loop-k l = record {
  gates : total load_joins l.rows.items ≤ 17 * l.k;
  table : LoadRows l.net l.rows.items l.p.program.functions l.p.program.params
      (λ v f. first (λ k. gate ((f == l.p.program.callee k) && on v (pin l.goes k)) (operands_in v (slice_get l.outcomes.wants.items k))) l.k);
}
