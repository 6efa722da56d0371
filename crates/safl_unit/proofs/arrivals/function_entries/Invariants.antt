use Rattle.safl_unit.proofs.Common.{Builds, is_some, taken_from, ◌&&◌, ◌==◌, ◌||◌}
use Rattle.safl_unit.specs.Edges.{one_below, ShowsBits}
use Rattle.safl_unit.proofs.arrivals.function_entries.Given as goal

abbrev pub invariant-loop-h : goal.invariant-loop-h
invariant-loop-h l = record {
  built : Builds l.initial.net l.net l.h;
  table : ShowsBits l.net l.all.items l.p.program.functions (λ v i. is_some (taken_from v l.loads i) || one_below (λ h. (i == h) && is_some (taken_from v l.outcomes.loops.items h)) l.h);
}
