use Rattle.std.proofs.Common.{ℕ, List, Err, ap, subst}
use Rattle.safl_io.specs.Sink.{SinkState, Sends, SendsPart}
use Rattle.safl_io.specs.Told.{TellsOn}
use Rattle.safl_timing.proofs.top.print.Goals as goal

pub returns-in-Ok : goal.returns-in-Ok
returns-in-Ok g c =
    let out : SinkState = g.O.Sink.told c.args.out.now in
    let out' : SinkState = g.O.Sink.told c.put.new.self in
    (c.status_if.ensures, subst (λ (text : List ℕ). TellsOn (Sends text) out.sent out'.sent) c.deref.ensures.value c.in-Ok.ensures.sent, c.in-Ok.ensures.quiet)

pub returns-in-Err-Failed : goal.returns-in-Err-Failed
returns-in-Err-Failed g c =
    let out : SinkState = g.O.Sink.told c.args.out.now in
    let out' : SinkState = g.O.Sink.told c.put.new.self in
    (c.in-Err-Failed.ensures.failed (ap Err c.in-Err-Failed.field-0-is), subst (λ (text : List ℕ). TellsOn (SendsPart text) out.sent out'.sent) c.deref.ensures.value c.in-Err-Failed.ensures.part)

pub returns : goal.returns
returns g c =
    let out : SinkState = g.O.Sink.told c.args.out.now in
    let out' : SinkState = g.O.Sink.told c.put.new.self in
    subst (λ (text : List ℕ). TellsOn (SendsPart text) out.sent out'.sent) c.deref.ensures.value c.in-Err-NoMemory.ensures.part
