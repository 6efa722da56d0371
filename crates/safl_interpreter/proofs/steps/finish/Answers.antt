use Rattle.safl_interpreter.proofs.Common.{Word, choose, get_or_read, no_word, shown_account, shown_term, slot, widths}
use Rattle.std.proofs.Common.{◌≡◌, ℕ, ◌<◌, ◌+◌, ◌++◌, length, Option, Some, sym, ap, ◌∙◌, subst, arith}
use Rattle.std.specs.Prelude.{IsSome}
use Rattle.safl_word.specs.Primitives.{result_width}
use Rattle.safl_term.proofs.HeldByChecked.{few_nodes}
use Rattle.safl_interpreter.specs.Sound.{FitsFrame, IsStep}
use Rattle.safl_interpreter.specs.Turns.{shown_then, shown_frame, applies, Enter, Within, Leave, Choose, Operate, Frame}
use Rattle.safl_interpreter.proofs.Finishing as on
use Rattle.safl_interpreter.proofs.steps.finish.Goals as goal

pub returns-in-Choose : goal.returns-in-Choose
returns-in-Choose c =
    let C = c.args.c.now.program in
    let r = c.args.frame in
    let same = on.ended_as r.words.items r.slots.items r.begun r.ready (ap shown_then c.in-Choose.is) c.requires.can.ended in
    let fits = on.ended_fits C (Choose (shown_term c.in-Choose.a.now) (shown_term c.in-Choose.b.now))
    r.words.items r.slots.items r.begun r.ready c.requires.can.width (subst (λ (x : Frame). FitsFrame C x (widths r.words.items) c.requires.can.width) same c.requires.can.fits) in
    let some : 0 < length r.words.items = on.one_word r.words.items fits.0 in
    let word : c.index.result.now ≡ slot r.words.items 0 = get_or_read r.words.items 0 c.index.result.now some c.index.ensures no_word in
    on.step_from C same
    (ap (λ x. Enter x r.slots.items r.ready) (c.branch-index.ensures ∙ ap (λ (w : Word). choose w (shown_term c.in-Choose.a.now) (shown_term c.in-Choose.b.now)) word))
    (on.choose_step C r.words.items r.slots.items r.begun r.ready (shown_account c.args.account.now) (shown_term c.in-Choose.a.now) (shown_term c.in-Choose.b.now))

pub returns-in-Bind : goal.returns-in-Bind
returns-in-Bind c =
    let C = c.args.c.now.program in
    let r = c.args.frame in
    on.step_from C (on.ended_as r.words.items r.slots.items r.begun r.ready (ap shown_then c.in-Bind.is) c.requires.can.ended)
    (ap (λ l. Enter (shown_term c.in-Bind.body.now) l r.ready)
    (c.in_ok-extend_from_slice-in-Bind.ensures.items ∙ ap (λ l. r.slots.items ++ l) c.deref.ensures.value))
    (on.bind_step C r.words.items r.slots.items r.begun r.ready (shown_account c.args.account.now) (shown_term c.in-Bind.body.now))

pub apply-requires : goal.apply-requires
apply-requires c =
    let C = c.args.c.now.program in
    let r = c.args.frame in
    let same = on.ended_as r.words.items r.slots.items r.begun r.ready (ap shown_then c.in-Operate.is) c.requires.can.ended in
    let fits = on.ended_fits C (Operate c.in-Operate.p)
    r.words.items r.slots.items r.begun r.ready c.requires.can.width (subst (λ (x : Frame). FitsFrame C x (widths r.words.items) c.requires.can.width) same c.requires.can.fits) in
    let is : result_width c.in-Operate.p (widths c.deref-in-Operate.result.now) ≡ Some c.requires.can.width =
    ap (λ l. result_width c.in-Operate.p (widths l)) c.deref-in-Operate.ensures.value ∙ fits in
    subst (λ (x : Option ℕ). IsSome x) (sym is) (search arith)

pub returns-in-Operate : goal.returns-in-Operate
returns-in-Operate c =
    let C = c.args.c.now.program in
    let r = c.args.frame in
    on.step_from C (on.ended_as r.words.items r.slots.items r.begun r.ready (ap shown_then c.in-Operate.is) c.requires.can.ended)
    (ap (λ (w : Word). Leave w r.ready) (c.apply.ensures ∙ on.applied_as c.in-Operate.p c.deref-in-Operate.ensures.value))
    (on.operate_step C r.words.items r.slots.items r.begun r.ready (shown_account c.args.account.now) c.in-Operate.p)

pub book-requires-clause-calls : goal.book-requires-clause-calls
book-requires-clause-calls c = c.requires.can.room (ap (λ x. applies (shown_then x)) c.in-Apply.is)

pub book-requires-clause-loops : goal.book-requires-clause-loops
book-requires-clause-loops c =
    let room = c.requires.can.room (ap (λ x. applies (shown_then x)) c.in-Apply.is) in
    omega (arith, room, c.requires.can.account.loops)

pub returns : goal.returns
returns c =
    let C = c.args.c.now.program in
    let r = c.args.frame in
    let f = c.in-Apply.f in
    subst (λ x. IsStep C (Within (shown_frame r)) (shown_account c.args.account.now) (Enter (shown_term c.body.result.now) r.words.items (r.ready + c.cycles.result)) x) (sym c.book.ensures)
    (on.step_from C (on.ended_as r.words.items r.slots.items r.begun r.ready (ap shown_then c.in-Apply.is) c.requires.can.ended)
    (on.enter_as r.words.items c.body.ensures.term (ap (λ k. r.ready + k) c.cycles.ensures.value))
    (on.apply_step C r.words.items r.slots.items r.begun r.ready (shown_account c.args.account.now) f c.in-Apply.is_loop
    (on.body_fits C c.requires.checked.formed r.words.items r.slots.items f c.in-Apply.is_loop)
    (few_nodes c.args.c.now c.requires.checked f)))
