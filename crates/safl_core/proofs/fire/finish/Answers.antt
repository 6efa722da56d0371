use Rattle.safl_core.proofs.Common.{Finish, IsPlan, IsSpan, Kept, List, ap, calls_of, length, rules, subst, sym, ℕ, ◌∙◌}
use Rattle.safl_core.proofs.KeptByEvents.{inv, good, after_end, finish_in, finish_is}
use Rattle.safl_core.proofs.RemembersByUnits.{recalls_step}
use Rattle.safl_core.proofs.SeenByUnits.{local_end}
use Rattle.safl_core.proofs.StatesByEvents.{can_refresh, leads}
use Rattle.safl_core.proofs.fire.finish.Goals as goal

pub unit-unit-requires : goal.unit-unit-requires
unit-unit-requires c = finish_in c.requires.kept.1 c.args.f c.requires.can.0 c.requires.can.1 c.requires.can.3

pub refresh-requires-clause-can : goal.refresh-requires-clause-can
refresh-requires-clause-can c =
    let C = c.args.c.now.program in
    let s = calls_of c.args.state.now in
    let h = c.requires.kept.1 in
    let can = c.requires.can in
    let is = finish_is h c.args.f can.0 can.1 can.2 can.3 can.4 c.unit-unit.result c.served-serves.result _ c.unit-unit.ensures.number c.served-serves.ensures c.in-Some.ensures in
    can_refresh c.args.c.now c.args.opening.now c.requires.kept.0 c.args.state.now _ h (Finish c.args.f) can _ c.end-own.ensures.steps is c.unit-unit.result (search rules)

pub returns-clause-leads : goal.returns-clause-leads
returns-clause-leads c =
    let C = c.args.c.now.program in
    let s = calls_of c.args.state.now in
    let h = c.requires.kept.1 in
    let can = c.requires.can in
    let is = finish_is h c.args.f can.0 can.1 can.2 can.3 can.4 c.unit-unit.result c.served-serves.result _ c.unit-unit.ensures.number c.served-serves.ensures c.in-Some.ensures in
    leads c.args.c.now c.args.opening.now (Finish c.args.f) c.end-own.result c.args.state.now _ _ _ _ c.end-own.ensures.steps c.refresh.ensures.refreshes is
    (λ v q. subst (λ n. IsSpan C n c.end-own.result) (sym (q ∙ sym c.unit-unit.ensures.number)) c.end-own.ensures.own) (λ v ne.
    after_end C c.args.opening.now (good h) s (inv h) c.args.state.now.answers.items c.args.state.now.wants.each.items h.known c.unit-unit.result _ v ne)

pub refresh-requires-clause-plan : goal.refresh-requires-clause-plan
refresh-requires-clause-plan c = subst (λ (n : ℕ). IsPlan c.args.c.now.program c.args.plan.now n) (sym (ap (λ (x : List Kept). length x) c.end-own.ensures.steps.kept)) c.requires.plan

pub returns-clause-recalls : goal.returns-clause-recalls
returns-clause-recalls c =
    let C = c.args.c.now.program in
    let s = calls_of c.args.state.now in
    let h = c.requires.kept.1 in
    let local = local_end C s c.unit-unit.result _ c.unit-unit.result in
    let u = c.unit-unit.result in
    λ v. c.refresh.ensures.recalls v (λ ne. recalls_step (good h) c.requires.plan c.args.state.now _ _ u u v c.end-own.ensures.steps local ne ne (c.requires.recalls v))

pub returns-clause-cells : goal.returns-clause-cells
returns-clause-cells c = c.refresh.ensures.cells ∙ ap (λ (x : List Kept). length x) c.end-own.ensures.steps.kept
