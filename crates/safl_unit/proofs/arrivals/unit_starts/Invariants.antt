use Rattle.safl_unit.proofs.Common.{bit_joins, on, pin, total, unit_for, ◌&&◌, ◌==◌, ◌≤◌}
use Rattle.safl_unit.specs.Edges.{one_below}
use Rattle.safl_unit.proofs.equations.Chains.{BitRows}
use Rattle.safl_unit.proofs.arrivals.unit_starts.Given as goal

abbrev pub invariant-loop-k : goal.invariant-loop-k
invariant-loop-k l = record {
  gates : total bit_joins l.rows.items ≤ l.k;
  table : BitRows l.net l.rows.items l.p.program.functions (λ v u. one_below (λ k. (u == unit_for l.p.program k) && on v (pin l.goes k)) l.k);
}
