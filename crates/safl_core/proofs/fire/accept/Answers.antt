use Rattle.safl_core.proofs.Common.{IsKnown, IsPlan, Kept, List, Option, Some, Word, ap, calls_of, length, refl, subst, sym, ℕ, ◌∙◌}
use Rattle.safl_calls.specs.Machine as core
use Rattle.safl_core.proofs.KeptByEvents.{inv, good, after_accept}
use Rattle.safl_core.proofs.RemembersByUnits.{recalls_step}
use Rattle.safl_core.proofs.SeenByUnits.{Local, local_accept}
use Rattle.safl_core.proofs.StatesByEvents.{can_refresh, leads}
use Rattle.safl_core.proofs.fire.accept.Goals as goal

pub refresh-requires-clause-can : goal.refresh-requires-clause-can
refresh-requires-clause-can c =
    can_refresh c.args.c.now c.args.opening.now c.requires.kept.0 c.args.state.now _ c.requires.kept.1 (core.Accept c.args.k) c.requires.can _ c.accept.ensures
    refl c.unit_for-unit.result c.unit_for-unit.ensures.within

pub returns-clause-leads : goal.returns-clause-leads
returns-clause-leads c =
    let C = c.args.c.now.program in
    let s = calls_of c.args.state.now in
    let h = c.requires.kept.1 in
    let k = c.args.k in
    let can = c.requires.can in
    let answers = c.args.state.now.answers.items in
    let wants = c.args.state.now.wants.each.items in
    leads c.args.c.now c.args.opening.now (core.Accept k) c.own_sites-own.result c.args.state.now _ _ _ _ c.accept.ensures
    c.refresh.ensures.refreshes refl (λ v q. absurd q) (λ v ne.
    subst (λ (x : Option (List Word)). IsKnown C (core.accept C s k x) answers wants v) (sym can.1)
    (after_accept C c.args.opening.now (good h) s (inv h) answers wants h.known k can.0 can.1 v (λ q. ne (q ∙ sym c.unit_for-unit.ensures.number))))

pub refresh-requires-clause-plan : goal.refresh-requires-clause-plan
refresh-requires-clause-plan c = subst (λ (n : ℕ). IsPlan c.args.c.now.program c.args.plan.now n) (sym (ap (λ (x : List Kept). length x) c.accept.ensures.kept)) c.requires.plan

pub returns-clause-recalls : goal.returns-clause-recalls
returns-clause-recalls c =
    let C = c.args.c.now.program in
    let s = calls_of c.args.state.now in
    let h = c.requires.kept.1 in
    let k = c.args.k in
    let can = c.requires.can in
    let u = c.unit_for-unit.result in
    let local : Local C s (core.accept C s k (core.asked C c.args.opening.now s k)) u u =
    subst (λ (x : Option (List Word)). Local C s (core.accept C s k x) u u) (sym can.1)
    (subst (λ n. Local C s (core.accept C s k (Some can.0)) n u) (sym c.unit_for-unit.ensures.number) (local_accept C c.args.opening.now s k can.0 u can.1)) in
    λ v. c.refresh.ensures.recalls v (λ ne. recalls_step (good h) c.requires.plan c.args.state.now _ _ u u v c.accept.ensures local ne ne (c.requires.recalls v))

pub returns-clause-cells : goal.returns-clause-cells
returns-clause-cells c = c.refresh.ensures.cells ∙ ap (λ (x : List Kept). length x) c.accept.ensures.kept
