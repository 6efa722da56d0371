use Rattle.std.proofs.Common.{◌≡◌, ℕ, [], length}
use Rattle.safl_lower.specs.Rows.{row_at}
use Rattle.safl_lower.proofs.rows.no_rows.Given as goal

abbrev pub invariant-loop-i : goal.invariant-loop-i
invariant-loop-i g l = record {
  count : length l.rows.items ≡ l._i;
  bare : (i : ℕ) → row_at l.rows.items i ≡ [];
}
