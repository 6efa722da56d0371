use Rattle.safl_unit.proofs.Common.{bit_joins, length, row_at, total, ℕ, ◌≡◌, ◌≤◌}
use Rattle.safl_unit.specs.Edges.{entry_row}
use Rattle.safl_unit.proofs.rivals.unit_entries.Given as goal

abbrev pub invariant-loop-f : goal.invariant-loop-f
invariant-loop-f l = record {
  count : length l.rows.items ≡ l.p.program.functions;
  rows : (u : ℕ) → row_at l.rows.items u ≡ entry_row l.p.program l.entries u l.f;
  gates : total bit_joins l.rows.items ≤ l.f;
}
