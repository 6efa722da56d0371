use Rattle.std.proofs.Common.{◌≡◌, ◌≤◌, map}
use Rattle.std.specs.Prelude.{count_by}
use Rattle.std.specs.List.{range_with_len}
use Rattle.safl_report.proofs.lines.count_arbiters.Given as goal

abbrev pub invariant-loop-f : goal.invariant-loop-f
invariant-loop-f l = record {
  count : l.count ≡ count_by l.p.arbiter (map l.p.program.unit (range_with_len 0 l.f));
  few : l.count ≤ l.f;
}
