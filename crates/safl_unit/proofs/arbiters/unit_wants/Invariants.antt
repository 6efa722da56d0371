use Rattle.safl_unit.proofs.Common.{row_at, unit_for}
use Rattle.std.proofs.Common.{◌≡◌, ℕ, suc, length, Some, slice_get}
use Rattle.safl_unit.specs.Arbiters.{site_row}
use Rattle.safl_unit.proofs.arbiters.unit_wants.Given as goal

abbrev pub invariant-loop-done : goal.invariant-loop-done
invariant-loop-done l = record {
  count : length l.rows.items ≡ l.p.program.functions;
  rows : (u : ℕ) → row_at l.rows.items u ≡ site_row l.p.program l.outcomes.wants.items u l.done;
  ranks_count : length l.ranks.items ≡ suc l.done;
  ranks : (m : ℕ) (q : ℕ) → slice_get l.ranks.items (suc m) ≡ Some q → q ≡ length (site_row l.p.program l.outcomes.wants.items (unit_for l.p.program (suc m)) m);
}
