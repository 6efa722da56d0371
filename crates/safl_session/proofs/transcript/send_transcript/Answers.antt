use Rattle.safl_session.proofs.Common.{Sends, SendsPart, TellsOn}
use Rattle.std.proofs.Common.{ℕ, ◌∙◌, subst, arith}
use Rattle.safl_word.proofs.Options.{on_err_always}
use Rattle.safl_session.specs.Holding.{IsBegun}
use Rattle.safl_session.specs.Transcripts.{calls_line}
use Rattle.safl_session.proofs.Holds.{next_arguments, held_more, reply_begun, late_held, late_begun, all_held, all_begun}
use Rattle.safl_session.proofs.transcript.send_transcript.Goals as goal

pub call-requires-clause-arguments : goal.call-requires-clause-arguments
call-requires-clause-arguments g c =
    next_arguments c.args.session.now c.args.script.now c.args.limit c.calls.call c.calls.session (g.O.Sink.told c.args.out.now)
    (g.O.Sink.told c.calls.out) c.words.result.now c.requires.calls c.calls.invariant
    c.words.ensures

pub returns-in_err-send_line-clause-begun : goal.returns-in_err-send_line-clause-begun
returns-in_err-send_line-clause-begun g c =
    on_err_always c.from_residual.result (IsBegun c.args.session.now c.args.script.now c.args.limit (g.O.Sink.told c.args.out.now).sent
    (g.O.Sink.told c.send_line.new.out).sent) (late_begun c.args.session.now c.args.script.now c.args.limit c.requires.ready c.requires.calls
    c.calls.call c.calls.session
    (g.O.Sink.told c.args.out.now) (g.O.Sink.told c.calls.out) (g.O.Sink.told c.send_line.new.out) c.calls.invariant c.words.result.now
    c.words.ensures
    c.in_default.ensures.none c.in_err-send_line.ensures.part)

pub returns-in_default-clause-held : goal.returns-in_default-clause-held
returns-in_default-clause-held g c =
    late_held c.args.session.now c.args.script.now c.args.limit c.requires.ready c.requires.calls c.calls.call c.calls.session
    (g.O.Sink.told c.args.out.now) (g.O.Sink.told c.calls.out) (g.O.Sink.told c.send_line.new.out) c.calls.invariant c.words.result.now
    c.words.ensures
    c.in_default.ensures.none c.in_ok-send_line.ensures.sent

pub returns-in_default-clause-quiet : goal.returns-in_default-clause-quiet
returns-in_default-clause-quiet g c = c.in_ok-send_line.ensures.quiet ∙ c.calls.invariant.quiet

pub returns-in_err-send_line-2-clause-begun : goal.returns-in_err-send_line-2-clause-begun
returns-in_err-send_line-2-clause-begun g c =
    on_err_always c.from_residual-in_err-send_line-2.result (IsBegun c.args.session.now c.args.script.now c.args.limit
    (g.O.Sink.told c.args.out.now).sent (g.O.Sink.told c.send_line-in-calls.new.out).sent)
    (reply_begun c.args.session.now c.args.script.now c.args.limit c.requires.ready c.requires.calls c.calls.call c.calls.session
    (g.O.Sink.told c.args.out.now) (g.O.Sink.told c.calls.out) (g.O.Sink.told c.send_line-in-calls.new.out) c.calls.invariant c.words.result.now
    c.words.ensures
    c.in-Some.reply c.call.new.self c.in-Some.ensures.reply c.in_err-send_line-2.ensures.part)

pub calls-preserved : goal.calls-preserved
calls-preserved g c =
    held_more c.args.session.now c.args.script.now c.args.limit c.requires.ready c.requires.calls c.calls.call c.calls.session
    (g.O.Sink.told c.args.out.now) (g.O.Sink.told c.calls.out) (g.O.Sink.told c.send_line-in-calls.new.out) c.calls.invariant c.words.result.now
    c.words.ensures
    c.in-Some.reply c.call.new.self c.in-Some.ensures.reply c.call.ensures.net c.in-Some.ensures.is_open c.in_ok-send_line-2.ensures.sent c.in_ok-send_line-2.ensures.quiet

pub returns-in_err-send_line-3-clause-begun : goal.returns-in_err-send_line-3-clause-begun
returns-in_err-send_line-3-clause-begun g c =
    on_err_always c.from_residual-in_err-send_line-3.result (IsBegun c.args.session.now c.args.script.now c.args.limit
    (g.O.Sink.told c.args.out.now).sent (g.O.Sink.told c.send_line-2.new.out).sent)
    (all_begun c.args.session.now c.args.script.now c.args.limit c.requires.ready c.requires.calls c.calls.call c.calls.session
    (g.O.Sink.told c.args.out.now) (g.O.Sink.told c.calls.out) (g.O.Sink.told c.send_line-2.new.out) c.calls.invariant
    (let a = c.calls-test.false in let b = c.len-call-end.ensures in omega (arith, a, b))
    (subst (λ (k : ℕ). TellsOn (SendsPart (calls_line k)) (g.O.Sink.told c.calls.out).sent (g.O.Sink.told c.send_line-2.new.out).sent) c.len.ensures c.in_err-send_line-3.ensures.part))

pub returns-clause-held : goal.returns-clause-held
returns-clause-held g c =
    all_held c.args.session.now c.args.script.now c.args.limit c.requires.ready c.requires.calls c.calls.call c.calls.session
    (g.O.Sink.told c.args.out.now) (g.O.Sink.told c.calls.out) (g.O.Sink.told c.send_line-2.new.out) c.calls.invariant
    (let a = c.calls-test.false in let b = c.len-call-end.ensures in omega (arith, a, b))
    (subst (λ (k : ℕ). TellsOn (Sends (calls_line k)) (g.O.Sink.told c.calls.out).sent (g.O.Sink.told c.send_line-2.new.out).sent) c.len.ensures c.in_ok-send_line-3.ensures.sent)

pub returns-clause-quiet : goal.returns-clause-quiet
returns-clause-quiet g c = c.in_ok-send_line-3.ensures.quiet ∙ c.calls.invariant.quiet
