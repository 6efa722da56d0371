use Rattle.std.proofs.Common.{◌≡◌, ℕ, length, None, slice_get}
use Rattle.safl_lower.specs.Tables.{entry_in}
use Rattle.safl_lower.proofs.load_tables.no_loads.Given as goal

abbrev pub invariant-loop : goal.invariant-loop
invariant-loop l = record {
  size : length l.loads.items ≡ l.counter;
  none : (i : ℕ) → entry_in (slice_get l.loads.items i) ≡ None;
}
