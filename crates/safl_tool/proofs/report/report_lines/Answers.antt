use Rattle.std.proofs.Common.{refl}
use Rattle.safl_tool.proofs.report.report_lines.Goals as goal

pub returns-clause-gives : goal.returns-clause-gives
returns-clause-gives c =
    let p = c.in_ok-planned.planned.checked in
    (p.program, p.names, c.in_ok-text.text.items, c.in_ok-planned.ensures.planned, c.in_ok-text.ensures, refl)
