use Rattle.std.proofs.lemmas.Result.{IfOk-weaker}
use Rattle.safl_report.specs.Report.{IsReport}
use Rattle.safl_tool.specs.Reporting.{Reports}
use Rattle.safl_tool.proofs.report.report_of.Goals as goal

pub returns : goal.returns
returns c =
    let p = c.args.p.now.checked in
    let n = c.in_ok-net.net in
    IfOk-weaker c.report.result (λ text. IsReport p.program p.names n text.items) (λ text. Reports p.program p.names text.items)
    (λ text r. record { net = n; circuit = c.in_ok-net.ensures.circuit; report = r }) c.report.ensures
