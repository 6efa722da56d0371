use Rattle.safl_interpreter.proofs.Common.{Enter, figures, shown_term, shown_turn}
use Rattle.std.proofs.Common.{◌<◌, refl, sym, ap, ◌∙◌, subst, arith}
use Rattle.safl_term.proofs.HeldByChecked.{main_is_last}
use Rattle.safl_interpreter.specs.Accounts.{Account, shown_account, opening, counted, ready}
use Rattle.safl_interpreter.specs.Rounds.{IsRound, shown_stack}
use Rattle.safl_interpreter.proofs.Counting.{counted_calls}
use Rattle.safl_interpreter.proofs.Figured as on
use Rattle.safl_interpreter.proofs.evaluation.measure.Goals as goal

pub loop-stack-init : goal.loop-stack-init
loop-stack-init c =
    let C = c.args.c.now.program in
    let wf = c.functions.ensures.checked.formed in
    let args = c.in_ok-to_vec.ensures.items_if_clones_equal (λ x y h. h) in
    let body = c.body.ensures.term ∙ ap C.body (c.main.ensures.number ∙ sym wf.main) in
    let turn = ap (λ l. Enter (shown_term c.body.result.now) l 2) args ∙ ap (λ x. Enter x c.args.args.now 2) body in
    let account = c.in_ok-account.ensures ∙ ap opening c.functions.ensures.count in
    let q = on.started C c.args.args.now c.args.budget (ap shown_stack c.new-stack.ensures.items) turn account
    (on.start C wf c.args.args.now c.args.budget c.requires (omega (arith, c.if-budget-eq0.false))) in
    record { alike = q.0; state = q.1 }

pub make_round-requires-clause-state : goal.make_round-requires-clause-state
make_round-requires-clause-state c = c.loop-stack.invariant.state

pub loop-stack-preserved : goal.loop-stack-preserved
loop-stack-preserved c =
    let C = c.args.c.now.program in
    let next = subst (λ r. IsRound C (shown_stack c.loop-stack.stack.items) (shown_turn c.loop-stack.turn) (shown_account c.loop-stack.account) (shown_stack c.make_round.new.stack.items) r
    (shown_account c.make_round.new.account) c.args.budget) c.in-Next.is c.in_ok-next.ensures in
    record {
      alike = λ out. let h = c.loop-stack.invariant.alike out in let g = next.alike out in (λ x. g.0 (h.0 x), λ x. h.1 (g.1 x));
      state = next.state;
    }

pub returns-in-Done : goal.returns-in-Done
returns-in-Done c =
    let C = c.args.c.now.program in
    let wf = c.functions.ensures.checked.formed in
    let done = subst (λ r. IsRound C (shown_stack c.loop-stack.stack.items) (shown_turn c.loop-stack.turn) (shown_account c.loop-stack.account) (shown_stack c.make_round.new.stack.items) r
    (shown_account c.make_round.new.account) c.args.budget) c.in-Done.is c.in_ok-next.ensures in
    let out = figures c.in-Done.word c.in-Done.span (shown_account c.loop-stack.account) in
    let e = (c.loop-stack.invariant.alike out).1 ((done.1 out).1 refl) in
    let same = ap (λ a. figures c.in-Done.word c.in-Done.span a) (sym done.0) in
    let some : 0 < C.functions = let l = wf.main_in in omega arith in (
      on.timed C c.args.args.now _ e.1 some (wf.main ∙ main_is_last c.args.c.now) (e.2 ∙ same),
      let k = ap
          (λ (a : Account). a.calls) done.0 in let w = c.loop-stack.invariant.state.within in omega arith,
    )

pub returns-in-Spent : goal.returns-in-Spent
returns-in-Spent c =
    let C = c.args.c.now.program in
    let spent = subst (λ r. IsRound C (shown_stack c.loop-stack.stack.items) (shown_turn c.loop-stack.turn) (shown_account c.loop-stack.account) (shown_stack c.make_round.new.stack.items) r
    (shown_account c.make_round.new.account) c.args.budget) c.in-Spent.is c.in_ok-next.ensures in
    λ v d.
    let out = figures v (ready C d 2) (counted C d (opening C.functions)) in
    let more = spent out ((c.loop-stack.invariant.alike out).0 (v, d, refl)) in
    omega (arith, more, counted_calls C d (opening C.functions))
