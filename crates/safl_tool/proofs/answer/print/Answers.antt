use Rattle.safl_tool.proofs.Common.{Sends, SendsPart, SinkState, TellsOn}
use Rattle.std.proofs.Common.{ℕ, List, Err, ap, subst}
use Rattle.safl_tool.proofs.Handing.{lines_given, lines_begun}
use Rattle.safl_tool.proofs.answer.print.Goals as goal

pub returns-in-Ok : goal.returns-in-Ok
returns-in-Ok g c = λ shelf asks ps qs.
    let out : SinkState = g.O.Sink.told c.args.out.now in
    let out' : SinkState = g.O.Sink.told c.put.new.self in
    lines_given shelf out out' c.args.lines c.status_if.result c.status_if.ensures
    (subst (λ (text : List ℕ). TellsOn (Sends text) out.sent out'.sent) c.deref.ensures.value c.in-Ok.ensures.sent) c.in-Ok.ensures.quiet

pub returns-in-Err-Failed : goal.returns-in-Err-Failed
returns-in-Err-Failed g c = λ shelf asks ps qs.
    let out : SinkState = g.O.Sink.told c.args.out.now in
    let out' : SinkState = g.O.Sink.told c.put.new.self in (
      c.in-Err-Failed.ensures.failed (ap Err c.in-Err-Failed.field-0-is),
      lines_begun shelf out out' c.args.lines (subst (λ (text : List ℕ). TellsOn (SendsPart text) out.sent out'.sent) c.deref.ensures.value c.in-Err-Failed.ensures.part),
    )

pub returns : goal.returns
returns g c = λ shelf asks ps qs.
    let out : SinkState = g.O.Sink.told c.args.out.now in
    let out' : SinkState = g.O.Sink.told c.put.new.self in
    lines_begun shelf out out' c.args.lines (subst (λ (text : List ℕ). TellsOn (SendsPart text) out.sent out'.sent) c.deref.ensures.value c.in-Err-NoMemory.ensures.part)
