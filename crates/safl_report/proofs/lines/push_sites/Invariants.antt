use Rattle.std.proofs.Common.{◌≡◌, ◌++◌, map}
use Rattle.std.specs.List.{concat, range_with_len}
use Rattle.safl_report.proofs.NamedLines.{site_line}
use Rattle.safl_report.proofs.lines.push_sites.Given as goal

abbrev pub invariant-loop-done : goal.invariant-loop-done
invariant-loop-done l = l.out.items ≡ l.fn.out.items ++ concat (map (site_line l.p.checked.program l.p.checked.names l.p.kept) (range_with_len 1 l.done))
