use Rattle.safl_core.proofs.Common.{IsPlan, IsSpan, Kept, List, LoopInto, ap, calls_of, length, refl, rules, subst, sym, ℕ, ◌∙◌}
use Rattle.safl_core.proofs.KeptByEvents.{inv, good, after_end, looping, loop_is}
use Rattle.safl_core.proofs.RemembersByUnits.{recalls_step}
use Rattle.safl_core.proofs.SeenByUnits.{local_end}
use Rattle.safl_core.proofs.StatesByEvents.{can_refresh, leads}
use Rattle.safl_core.proofs.fire.loop_into.Goals as goal

pub unit-unit-requires : goal.unit-unit-requires
unit-unit-requires c = (looping c.requires.kept.1 c.args.h c.requires.can.0 c.requires.can.1).within

pub restart-own-requires-clause-runs : goal.restart-own-requires-clause-runs
restart-own-requires-clause-runs c =
    let s = calls_of c.args.state.now in
    let l = looping c.requires.kept.1 c.args.h c.requires.can.0 c.requires.can.1 in
    (l.member, l.site, l.args, ap s.unit c.unit-unit.ensures.number ∙ l.runs)

pub refresh-requires-clause-can : goal.refresh-requires-clause-can
refresh-requires-clause-can c =
    let C = c.args.c.now.program in
    let s = calls_of c.args.state.now in
    let h = c.requires.kept.1 in
    let can = c.requires.can in
    let is = loop_is h c.args.h can.0 can.1 c.unit-unit.result _ c.restart-own.ensures.restarts.args c.unit-unit.ensures.number refl c.restart-own.ensures.restarts.passed in
    can_refresh c.args.c.now c.args.opening.now c.requires.kept.0 c.args.state.now _ h (LoopInto c.args.h) can _ c.restart-own.ensures.restarts.steps is c.unit-unit.result (search rules)

pub returns-clause-leads : goal.returns-clause-leads
returns-clause-leads c =
    let C = c.args.c.now.program in
    let s = calls_of c.args.state.now in
    let h = c.requires.kept.1 in
    let can = c.requires.can in
    let is = loop_is h c.args.h can.0 can.1 c.unit-unit.result _ c.restart-own.ensures.restarts.args c.unit-unit.ensures.number refl c.restart-own.ensures.restarts.passed in
    leads c.args.c.now c.args.opening.now (LoopInto c.args.h) c.restart-own.result c.args.state.now _ _ _ _ c.restart-own.ensures.restarts.steps
    c.refresh.ensures.refreshes is (λ v q. subst (λ n. IsSpan C n c.restart-own.result) (sym (q ∙ sym c.unit-unit.ensures.number)) c.restart-own.ensures.own) (λ v ne.
    after_end C c.args.opening.now (good h) s (inv h) c.args.state.now.answers.items c.args.state.now.wants.each.items h.known c.unit-unit.result _ v ne)

pub refresh-requires-clause-plan : goal.refresh-requires-clause-plan
refresh-requires-clause-plan c = subst (λ (n : ℕ). IsPlan c.args.c.now.program c.args.plan.now n) (sym (ap (λ (x : List Kept). length x) c.restart-own.ensures.restarts.steps.kept)) c.requires.plan

pub returns-clause-recalls : goal.returns-clause-recalls
returns-clause-recalls c =
    let C = c.args.c.now.program in
    let s = calls_of c.args.state.now in
    let h = c.requires.kept.1 in
    let local = local_end C s c.unit-unit.result _ c.unit-unit.result in
    λ v. c.refresh.ensures.recalls v (λ ne. recalls_step (good h) c.requires.plan c.args.state.now _ _ c.unit-unit.result c.unit-unit.result v
    c.restart-own.ensures.restarts.steps local ne ne (c.requires.recalls v))

pub returns-clause-cells : goal.returns-clause-cells
returns-clause-cells c = c.refresh.ensures.cells ∙ ap (λ (x : List Kept). length x) c.restart-own.ensures.restarts.steps.kept
