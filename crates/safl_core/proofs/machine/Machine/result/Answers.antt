use Rattle.safl_core.proofs.Common.{GoesOn, IsOver, IsValue, Shown, ap, arith, back_word, subst}
use Rattle.safl_core.specs.Walking.{IsShort}
use Rattle.safl_core.proofs.WalksByTurns.{short_of}
use Rattle.safl_core.proofs.LawsOfKept.{value_of, goes_on, over, read_stage}
use Rattle.safl_core.proofs.machine.Machine.result.Goals as goal

pub returns-in-Unsent-clause-goes_on : goal.returns-in-Unsent-clause-goes_on
returns-in-Unsent-clause-goes_on c =
    let first = read_stage c.self.inside.state.stages.items _ _ (omega (arith, c.self.invariant.kept.sites)) c.index.ensures c.in-Unsent.is in
    subst (λ (m : Shown). GoesOn m) c.self.view_is (goes_on c.self.invariant.kept (ap back_word first))

pub returns-in-Sent-clause-goes_on : goal.returns-in-Sent-clause-goes_on
returns-in-Sent-clause-goes_on c =
    let first = read_stage c.self.inside.state.stages.items _ _ (omega (arith, c.self.invariant.kept.sites)) c.index.ensures c.in-Sent.is in
    subst (λ (m : Shown). GoesOn m) c.self.view_is (goes_on c.self.invariant.kept (ap back_word first))

pub returns-in-Returned-clause-value : goal.returns-in-Returned-clause-value
returns-in-Returned-clause-value c =
    let first = read_stage c.self.inside.state.stages.items _ _ (omega (arith, c.self.invariant.kept.sites)) c.index.ensures c.in-Returned.is in
    subst (λ (m : Shown). IsValue m c.in-Returned.word) c.self.view_is (value_of c.self.invariant.kept c.in-Returned.word (ap back_word first))

pub returns-in-Returned-clause-over : goal.returns-in-Returned-clause-over
returns-in-Returned-clause-over c = λ some.
    let first = read_stage c.self.inside.state.stages.items _ _ (omega (arith, c.self.invariant.kept.sites)) c.index.ensures c.in-Returned.is in
    subst (λ (m : Shown). IsOver m) c.self.view_is (over c.self.invariant.kept c.in-Returned.word (ap back_word first))

pub returns-in-Unsent-clause-short : goal.returns-in-Unsent-clause-short
returns-in-Unsent-clause-short c =
    let first = read_stage c.self.inside.state.stages.items _ _ (omega (arith, c.self.invariant.kept.sites)) c.index.ensures c.in-Unsent.is in
    subst (λ (m : Shown). IsShort m m.events) c.self.view_is (short_of c.self.invariant.kept (goes_on c.self.invariant.kept (ap back_word first)))

pub returns-in-Sent-clause-short : goal.returns-in-Sent-clause-short
returns-in-Sent-clause-short c =
    let first = read_stage c.self.inside.state.stages.items _ _ (omega (arith, c.self.invariant.kept.sites)) c.index.ensures c.in-Sent.is in
    subst (λ (m : Shown). IsShort m m.events) c.self.view_is (short_of c.self.invariant.kept (goes_on c.self.invariant.kept (ap back_word first)))
