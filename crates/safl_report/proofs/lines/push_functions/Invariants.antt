use Rattle.std.proofs.Common.{◌≡◌, ◌++◌, map}
use Rattle.std.specs.List.{concat, range_with_len}
use Rattle.safl_report.proofs.NamedLines.{function_line}
use Rattle.safl_report.proofs.lines.push_functions.Given as goal

abbrev pub invariant-loop-f : goal.invariant-loop-f
invariant-loop-f l = l.out.items ≡ l.fn.out.items ++ concat (map (function_line l.p.checked.program l.p.checked.names l.p.arbiter) (range_with_len 0 l.f))
