use Rattle.std.proofs.Common.{◌≤◌, ◌-◌, length, take, drop}
use Rattle.safl_aiger.proofs.Cutting.{Free}
use Rattle.safl_aiger.proofs.lines.line_end.Given as goal

abbrev pub invariant-loop-end : goal.invariant-loop-end
invariant-loop-end l = record {
  low : l.at ≤ l.end;
  high : l.end ≤ length l.text;
  free : Free 10 (take (l.end - l.at) (drop l.at l.text));
}

abbrev pub decreases-loop-end : goal.decreases-loop-end
decreases-loop-end l = length l.text - l.end
