use Rattle.safl_report.specs.Counting.{AreCalls}
use Rattle.safl_report.proofs.calls.count_calls.Given as goal

abbrev pub invariant-loop-done : goal.invariant-loop-done
invariant-loop-done l = AreCalls l.p.program l.done l.calls.items
