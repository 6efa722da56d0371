use Rattle.std.proofs.Common.{true, false, refl, sym, ◌∙◌, subst, inl, inr, eq-eqb, arith}
use Rattle.safl_span.specs.Sharing.{AreUnshared, IsShared}
use Rattle.safl_term.specs.Checked.{CheckedProgram}
use Rattle.safl_interpreter.specs.Measured.{IsMeasured, IsTimed}
use Rattle.safl_span.proofs.Exactness as on
use Rattle.safl_span.proofs.figures.time.Goals as goal
use Rattle.safl_span.proofs.figures.time.Goals.{then-span-latest, else-span-latest}

pub overflow_sub-latest : goal.overflow_sub-latest
overflow_sub-latest c =
    let h = on.timed_in c.checked.result.now.program c.args.args.now c.args.budget c.in_ok-timing.field-0 c.in-Some.timing c.in-Some.is c.in_ok-timing.ensures in
    omega (arith, on.few_loops c.checked.result.now.program c.args.args.now c.in-Some.timing h, c.from-loops.ensures, c.from-calls.ensures)

pub returns-after-span-latest : goal.returns-after-span-latest
returns-after-span-latest c =
    let t = c.in-Some.timing in
    let h = on.timed_in c.checked.result.now.program c.args.args.now c.args.budget c.in_ok-timing.field-0 t c.in-Some.is c.in_ok-timing.ensures in
    let g = subst (λ (x : CheckedProgram). IsTimed x.program c.args.args.now t) c.checked.ensures.same h in
    on.figured c.args.planned.now.checked.program c.args.planned.now.choice c.args.args.now t g _ refl c.from-calls.ensures c.from-loops.ensures refl refl
    (λ e. elim c.if-span-latest.branch [
      | then-span-latest w ↦ inl w.if-span-latest.true
      | else-span-latest w ↦ inr (subst (AreUnshared c.args.planned.now.checked.program c.args.planned.now.choice) w.deref.ensures.value
          (w.is_shared.ensures.none (on.not_shared w.is_shared.result _ w.exact-is e)))
    ])
    (λ e. elim c.if-span-latest.branch [
      | then-span-latest w ↦ on.never (sym e ∙ (w.exact-is ∙ eq-eqb _ _ w.if-span-latest.true))
      | else-span-latest w ↦ (
        w.if-span-latest.false,
        subst (IsShared c.args.planned.now.checked.program c.args.planned.now.choice) w.deref.ensures.value
            (w.is_shared.ensures.some (on.is_shared w.is_shared.result _ w.exact-is e)),
      )
    ])

pub returns-in-None : goal.returns-in-None
returns-in-None c =
    on.takes_more c.args.planned.now.checked.program c.args.args.now c.args.budget c.in_ok-timing.field-0 c.in-None.is
    (subst (λ (x : CheckedProgram). IsMeasured x.program c.args.args.now c.args.budget c.in_ok-timing.field-0) c.checked.ensures.same c.in_ok-timing.ensures)
