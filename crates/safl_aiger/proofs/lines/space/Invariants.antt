use Rattle.std.proofs.Common.{◌≤◌, ◌-◌, length, take}
use Rattle.safl_aiger.proofs.Cutting.{Free}
use Rattle.safl_aiger.proofs.lines.space.Given as goal

abbrev pub invariant-loop-end : goal.invariant-loop-end
invariant-loop-end l = record {
  high : l.end ≤ length l.line;
  free : Free 32 (take l.end l.line);
}

abbrev pub decreases-loop-end : goal.decreases-loop-end
decreases-loop-end l = length l.line - l.end
