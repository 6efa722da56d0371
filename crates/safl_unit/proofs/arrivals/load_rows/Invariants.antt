use Rattle.safl_unit.proofs.Common.{bit_of, entry_in, length, maybe_one, row_at, slice_get, take, ℕ, ◌≡◌}
use Rattle.safl_unit.proofs.arrivals.load_rows.Given as goal

abbrev pub invariant-loop-i : goal.invariant-loop-i
invariant-loop-i l = record {
  count : length l.rows.items ≡ l.i;
  rows : (j : ℕ) → row_at l.rows.items j ≡ maybe_one (bit_of (entry_in (slice_get (take l.i l.loads) j)));
}
