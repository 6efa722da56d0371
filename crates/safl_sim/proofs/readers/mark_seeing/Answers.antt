use Rattle.std.proofs.Common.{◌≡◌, Some, length, slice_get, slice_index, ◌+◌, refl, sym, ap, subst, ◌∙◌, arith}
use Rattle.std.proofs.lemmas.Option.{slice_get-get_or}
use Rattle.safl_word.proofs.Lists.{get_read}
use Rattle.safl_sim.specs.Readers.{HasMarked}
use Rattle.safl_sim.proofs.MarksByOne.{marked_none, marked_step, blind_step}
use Rattle.safl_sim.proofs.readers.mark_seeing.Goals.{then-sees, else-sees}
use Rattle.safl_sim.proofs.readers.mark_seeing.Goals as goal

pub readers-init : goal.readers-init
readers-init c = record {
  long = refl;
  marked = λ p part. marked_none c.args.plan.now.steps.items c.args.plan.now.readers.items c.args.from p c.args.values.now c.args.marks.now;
}

pub mark-requires : goal.mark-requires
mark-requires c =
    let j = c.readers.j in
    let reader = c.index-then-sees.result.now in
    let a = c.requires.known j reader (get_read c.args.plan.now.readers.items j reader (let b = c.readers-test.true in let d = c.requires.within in omega (arith, b, d)) c.index-then-sees.ensures) in
    let b = c.readers.invariant.long in
    omega (arith, a, b)

pub readers-preserved : goal.readers-preserved
readers-preserved c =
    let plan = c.args.plan.now in
    let steps = plan.steps.items in
    let readers = plan.readers.items in
    let from = c.args.from in
    let j = c.readers.j in
    let values = c.args.values.now in
    record {
      long = elim c.if-sees.branch [
        | then-sees w ↦ ap length w.marks-is ∙ w.mark.ensures.long ∙ c.readers.invariant.long
        | else-sees w ↦ ap length w.marks-is ∙ c.readers.invariant.long
      ];
      marked = λ p part.
          let least = part.1 in
          let most = part.2 in
          let before = c.readers.invariant.marked p part in
          let here : slice_get readers j ≡ Some (slice_index readers j) = slice_get-get_or readers j 0 (let a = c.readers-test.true in let b = c.requires.within in omega (arith, a, b)) in
          let guard = get_read plan.guards.items j c.index.result.now
          (let a = c.readers-test.true in let b = c.requires.within in let d = plan.guard_for_each in omega (arith, a, b, d)) c.index.ensures in
          elim c.if-sees.branch [
            | then-sees w ↦
                subst (λ l. HasMarked steps readers from (j + 1) p values c.args.marks.now l) (sym w.marks-is)
                (marked_step steps readers from j w.index-then-sees.result.now p values c.args.marks.now c.readers.marks w.mark.new.self (let a = c.readers.auto.j in omega (arith, a)) before
                (get_read readers j w.index-then-sees.result.now (let a = c.readers-test.true in let b = c.requires.within in omega (arith, a, b)) w.index-then-sees.ensures) w.mark.ensures)
            | else-sees w ↦
                subst (λ l. HasMarked steps readers from (j + 1) p values c.args.marks.now l) (sym w.marks-is)
                (blind_step steps readers from j (slice_index readers j) p values c.args.marks.now c.readers.marks before here
                (plan.guarded p j (slice_index readers j) c.index.result.now part.0
                (let a = c.readers.auto.j in omega (arith, a, least)) (let a = c.readers-test.true in omega (arith, a, most)) here guard values (c.sees.ensures w.if-sees.false)))
          ];
    }

pub returns : goal.returns
returns c = λ p part.
    subst (λ k. HasMarked c.args.plan.now.steps.items c.args.plan.now.readers.items c.args.from k p c.args.values.now c.args.marks.now c.readers.marks)
    (let a = c.readers-test.false in let b = c.readers.auto.j-end in let d = c.requires.ordered in omega (arith, a, b, d))
    (c.readers.invariant.marked p part)
