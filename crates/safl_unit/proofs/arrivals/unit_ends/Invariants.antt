use Rattle.safl_unit.proofs.Common.{gate, load_joins, taken_at, total}
use Rattle.std.proofs.Common.{◌≤◌, ◌*◌, ◌==◌, [], ◌∷◌}
use Rattle.safl_calls.specs.Picks.{first}
use Rattle.safl_unit.proofs.equations.Chains.{LoadRows}
use Rattle.safl_unit.proofs.arrivals.unit_ends.Given as goal

abbrev pub invariant-loop-f : goal.invariant-loop-f
invariant-loop-f l = record {
  gates : total load_joins l.rows.items ≤ 2 * l.f;
  table : LoadRows l.net l.rows.items l.p.program.functions (λ u. l.p.program.result u ∷ [])
      (λ v u. first (λ f. gate (u == l.p.program.unit f) (taken_at v l.outcomes.ends.items f)) l.f);
}
