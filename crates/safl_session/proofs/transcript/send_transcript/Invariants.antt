use Rattle.safl_session.proofs.Holds.{HeldTo}
use Rattle.safl_session.proofs.transcript.send_transcript.Given as goal

abbrev pub invariant-calls : goal.invariant-calls
invariant-calls g l = HeldTo l.fn.session l.script l.limit l.call l.session (g.O.Sink.told l.fn.out) (g.O.Sink.told l.out)
