use Rattle.std.proofs.Common.{Err, ap}
use Rattle.safl_tool.proofs.Conversed.{held_given, begun_given}
use Rattle.safl_tool.proofs.session.converse.Goals as goal

pub returns-in-Ok : goal.returns-in-Ok
returns-in-Ok g c = λ shelf asks ps qs.
    held_given c.args.opening c.args.limit shelf (g.O.Sink.told c.args.out.now) (g.O.Sink.told c.send_transcript.new.out) c.in-Ok.comes
    c.in-Ok.ensures.held c.in-Ok.ensures.quiet c.status_if.result c.status_if.ensures

pub returns-in-Err-Failed : goal.returns-in-Err-Failed
returns-in-Err-Failed g c = λ shelf asks ps qs. (
  c.in-Err-Failed.ensures.failed (ap Err c.in-Err-Failed.field-0-is),
  begun_given c.args.opening c.args.limit shelf (g.O.Sink.told c.args.out.now) (g.O.Sink.told c.send_transcript.new.out) c.in-Err-Failed.ensures.begun,
)

pub returns : goal.returns
returns g c = λ shelf asks ps qs.
    begun_given c.args.opening c.args.limit shelf (g.O.Sink.told c.args.out.now) (g.O.Sink.told c.send_transcript.new.out) c.in-Err-NoMemory.ensures.begun
