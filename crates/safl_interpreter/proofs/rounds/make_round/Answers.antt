use Rattle.safl_interpreter.proofs.Common.{Figures, shown_account, shown_term, shown_terms}
use Rattle.std.proofs.Common.{◌≡◌, ◌<◌, ◌≤◌, ◌∷◌, refl, sym, ap, ◌∙◌, subst, arith}
use Rattle.safl_interpreter.specs.Sound.{may_call, IsStep}
use Rattle.safl_interpreter.specs.Turns.{shown_then, shown_frame, shown_turn, Enter, Within, Leave}
use Rattle.safl_interpreter.specs.Rounds.{IsState, shown_stack, Ends}
use Rattle.safl_interpreter.proofs.Rounding as on
use Rattle.safl_interpreter.proofs.Finishing.{ended_as}
use Rattle.safl_interpreter.proofs.rounds.make_round.Goals as goal
use Rattle.safl_interpreter.proofs.rounds.make_round.Goals.{else-account-budget-via-then-account-budget+else-needs_call, else-account-budget-via-else-account-budget}

pub returns-in-Enter : goal.returns-in-Enter
returns-in-Enter c =
    let C = c.args.c.now.program in
    on.next_of_step C _ (shown_turn c.args.turn) (shown_turn c.enter.result) (shown_account c.args.account.now) (shown_account c.args.account.now) c.args.budget c.requires.state
    (subst (λ x. IsStep C x (shown_account c.args.account.now) (shown_turn c.enter.result) (shown_account c.args.account.now))
    (sym (ap shown_turn c.in-Enter.is)) (c.enter.ensures C (shown_account c.args.account.now)))
    (λ e. on.no_call (ap (λ x. may_call (shown_turn x)) (sym c.in-Enter.is) ∙ e))

pub returns-in_ok-returned-in-Some : goal.returns-in_ok-returned-in-Some
returns-in_ok-returned-in-Some c =
    let C = c.args.c.now.program in
    let top : shown_stack c.args.stack.now.items ≡ shown_frame c.in-Some.frame ∷ shown_stack c.pop.new.self.items =
    ap shown_stack c.in-Some.ensures.items ∙ on.stack_top c.pop.new.self.items c.in-Some.frame in
    let is = ap shown_turn c.in-Leave.is in
    let state = subst (λ x. IsState C x (Leave c.in-Leave.word c.in-Leave.now) (shown_account c.args.account.now) c.args.budget) top
    (subst (λ x. IsState C (shown_stack c.args.stack.now.items) x (shown_account c.args.account.now) c.args.budget) is c.requires.state) in
    on.next_as C top is refl (ap Within c.in_ok-returned-in-Some.ensures)
    (on.next_of_word C (shown_frame c.in-Some.frame) (shown_stack c.pop.new.self.items) c.in-Leave.word c.in-Leave.now (shown_account c.args.account.now) c.args.budget state)

pub returns-in_ok-push-in-Some-split_first : goal.returns-in_ok-push-in-Some-split_first
returns-in_ok-push-in-Some-split_first c =
    let C = c.args.c.now.program in
    let r = c.in-Within.frame in
    let a = shown_account c.args.account.now in
    let rs = shown_stack c.args.stack.now.items in
    let then = shown_then r.then in
    let t = shown_term c.in-Some-split_first.first.now in
    let ts = shown_terms c.in-Some-split_first.rest.now in
    let parts = ap shown_terms c.in-Some-split_first.ensures.cases.0 in
    let is = ap shown_turn c.in-Within.is ∙ ap (λ x. Within (on.going then x r.words.items r.slots.items r.begun r.ready)) parts in
    let slots = c.in_ok-slots-in-Some-split_first.ensures.items_if_clones_equal (λ x y h. h) ∙ c.deref.ensures.value in
    let pushed = ap shown_stack c.in_ok-push-in-Some-split_first.ensures.items ∙ (on.stack_top c.args.stack.now.items c.without_first.result ∙ ap (λ x. x ∷ rs) c.without_first.ensures) in
    on.next_as C refl is pushed (ap (λ l. Enter t l r.begun) slots)
    (on.next_of_part C then t ts r.words.items r.slots.items r.begun r.ready rs a c.args.budget (subst (λ x. IsState C rs x a c.args.budget) is c.requires.state))

pub returns-then-needs_call : goal.returns-then-needs_call
returns-then-needs_call c =
    let C = c.args.c.now.program in
    let r = c.in-Within.frame in
    let a = shown_account c.args.account.now in
    let rs = shown_stack c.args.stack.now.items in
    let is = ap shown_turn c.in-Within.is ∙ ap Within (ended_as r.words.items r.slots.items r.begun r.ready refl (on.no_parts r.rest.now c.in-None-split_first.ensures.cases)) in
    subst (λ x. (out : Figures) → Ends C rs x a out → c.args.budget < out.account.calls) (sym is)
    (on.spent C rs (shown_then r.then) r.words.items r.slots.items r.begun r.ready a c.args.budget (sym c.needs_call.ensures ∙ c.if-needs_call.true) c.if-account-budget.true)

pub finish-requires-clause-can : goal.finish-requires-clause-can
finish-requires-clause-can c =
    let h = c.requires.state in
    let is = ap shown_turn c.in-Within.is in
    let most : c.args.budget ≤ 4294967295 = omega (arith, c.ranges.budget) in
    on.can_finish c.args.c.now.program (shown_stack c.args.stack.now.items) (shown_frame c.in-Within.frame) (shown_account c.args.account.now) c.args.budget
    (subst (λ x. IsState c.args.c.now.program (shown_stack c.args.stack.now.items) x (shown_account c.args.account.now) c.args.budget) is h)
    (on.no_parts c.in-Within.frame.rest.now c.in-None-split_first.ensures.cases)
    most
    (elim c.else-account-budget.branch [
      | else-account-budget-via-then-account-budget+else-needs_call w ↦ λ e. on.no_call (sym w.if-needs_call.false ∙ (w.needs_call.ensures ∙ e))
      | else-account-budget-via-else-account-budget w ↦ λ e. on.below (c.args.account.now.calls) c.args.budget h.within w.if-account-budget.false
    ])

pub returns-in_ok-finish-in-None-split_first : goal.returns-in_ok-finish-in-None-split_first
returns-in_ok-finish-in-None-split_first c =
    let C = c.args.c.now.program in
    let is = ap shown_turn c.in-Within.is in
    let a = shown_account c.args.account.now in
    let b = shown_account c.finish.new.account in
    let t = shown_turn c.in_ok-finish-in-None-split_first.field-0 in
    let rs = shown_stack c.args.stack.now.items in
    on.next_as C refl is refl refl
    (on.next_of_step C rs (Within (shown_frame c.in-Within.frame)) t a b c.args.budget (subst (λ x. IsState C rs x a c.args.budget) is c.requires.state) c.in_ok-finish-in-None-split_first.ensures
    (elim c.else-account-budget.branch [
      | else-account-budget-via-then-account-budget+else-needs_call w ↦ λ e. on.no_call (sym w.if-needs_call.false ∙ (w.needs_call.ensures ∙ e))
      | else-account-budget-via-else-account-budget w ↦ λ e. on.below (c.args.account.now.calls) c.args.budget c.requires.state.within w.if-account-budget.false
    ]))
