use Rattle.safl_unit.proofs.Common.{bit_joins, is_some, taken_from, total, ◌&&◌, ◌==◌, ◌||◌, ◌≤◌}
use Rattle.safl_unit.specs.Edges.{one_below}
use Rattle.safl_unit.proofs.equations.Chains.{BitRows}
use Rattle.safl_unit.proofs.arrivals.unit_clears.Given as goal

abbrev pub invariant-loop-h : goal.invariant-loop-h
invariant-loop-h l = record {
  gates : total bit_joins l.rows.items ≤ l.h;
  table : BitRows l.net l.rows.items l.p.program.functions
      (λ v u. is_some (taken_from v l.ends u) || one_below (λ h. (u == l.p.program.unit h) && is_some (taken_from v l.outcomes.loops.items h)) l.h);
}
