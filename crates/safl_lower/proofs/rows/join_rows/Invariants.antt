use Rattle.std.proofs.Common.{◌≡◌, ℕ, length, take, slice_get}
use Rattle.safl_lower.specs.Sources.{Builds, Lasts}
use Rattle.safl_lower.specs.Tables.{entry_in}
use Rattle.safl_lower.specs.Rows.{row_at, total}
use Rattle.safl_lower.proofs.rows.join_rows.Given as goal

abbrev pub invariant-loop-i : goal.invariant-loop-i
invariant-loop-i g l = record {
  built : Builds l.initial.net l.net (total g.J.Joins.gates (take l.i l.rows));
  count : length l.all.items ≡ l.i;
  joined : (j : ℕ) → Lasts (λ n. g.J.Joins.Joined l.initial.net n (row_at (take l.i l.rows) j) (entry_in (slice_get l.all.items j))) l.net;
}
