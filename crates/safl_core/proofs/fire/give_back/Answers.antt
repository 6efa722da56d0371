use Rattle.safl_core.proofs.Common.{IsPlan, Kept, List, Some, ap, arith, length, subst, sym, unit_for, ℕ, ◌<◌, ◌∙◌, ◌≡◌}
use Rattle.safl_calls.specs.Machine as core
use Rattle.safl_core.specs.States.{CanRenew, calls_of}
use Rattle.safl_core.proofs.KeptByEvents.{inv, good, after_return, return_in, return_is, return_next}
use Rattle.safl_core.proofs.RemembersByUnits.{recalls_return, can_renew}
use Rattle.safl_core.proofs.StatesByEvents.{can_refresh, leads, leads_unseen}
use Rattle.safl_core.proofs.fire.give_back.Goals as goal

pub unit_for-unit-requires : goal.unit_for-unit-requires
unit_for-unit-requires c = return_in c.requires.kept.1 c.args.k c.requires.can.0 c.requires.can.1

pub give_back-requires-clause-site : goal.give_back-requires-clause-site
give_back-requires-clause-site c = return_in c.requires.kept.1 c.args.k c.requires.can.0 c.requires.can.1

pub caller-caller-requires-clause-most : goal.caller-caller-requires-clause-most
caller-caller-requires-clause-most c = return_in c.requires.kept.1 c.args.k c.requires.can.0 c.requires.can.1

pub returns-then-k-eq0-clause-leads : goal.returns-then-k-eq0-clause-leads
returns-then-k-eq0-clause-leads c =
    let C = c.args.c.now.program in
    let s = calls_of c.args.state.now in
    let h = c.requires.kept.1 in
    let can = c.requires.can in
    let word = return_is h c.args.k can.0 can.1 c.unit_for-unit.result _ c.unit_for-unit.ensures.number c.in-Some.ensures in
    leads_unseen c.args.c.now c.args.opening.now (core.Return c.args.k) c.none.result c.args.state.now _ _ c.none.ensures.end c.give_back.ensures
    (return_next h c.args.k can.0 can.1 _ word) (λ v q. absurd q) (λ v.
    after_return C c.args.opening.now (good h) s (inv h) c.args.state.now.answers.items c.args.state.now.wants.each.items h.known c.args.k
    c.in-Some.word (can.1 ∙ ap (core.Delivers c.args.k) (sym word)) v (λ pos q. absurd (omega (arith, pos, c.if-k-eq0.true))))

pub returns-then-k-eq0-clause-recalls : goal.returns-then-k-eq0-clause-recalls
returns-then-k-eq0-clause-recalls c =
    let C = c.args.c.now.program in
    let s = calls_of c.args.state.now in
    let k = c.args.k in
    let h = c.requires.kept.1 in
    let can = c.requires.can in
    let word = return_is h k can.0 can.1 c.unit_for-unit.result _ c.unit_for-unit.ensures.number c.in-Some.ensures in
    let later = core.give_back C s k (core.Delivers k c.in-Some.word) in
    λ v. recalls_return (good h) c.requires.plan c.args.state.now _ k c.in-Some.word (unit_for C k) v c.give_back.ensures
    (λ pos. absurd (omega (arith, pos, c.if-k-eq0.true))) (λ q. q) (c.requires.recalls v)

pub returns-then-k-eq0-clause-cells : goal.returns-then-k-eq0-clause-cells
returns-then-k-eq0-clause-cells c = ap (λ (x : List Kept). length x) c.give_back.ensures.kept

pub renew-requires-clause-can : goal.renew-requires-clause-can
renew-requires-clause-can c =
    let h = c.requires.kept.1 in
    let can = c.requires.can in
    let word = return_is h c.args.k can.0 can.1 c.unit_for-unit.result _ c.unit_for-unit.ensures.number c.in-Some.ensures in
    can_refresh c.args.c.now c.args.opening.now c.requires.kept.0 c.args.state.now _ h (core.Return c.args.k) can _ c.give_back.ensures
    (return_next h c.args.k can.0 can.1 _ word) _ (omega (arith, c.unit-waiting.ensures.within, c.caller-caller.ensures.within))

pub renew-requires-clause-plan : goal.renew-requires-clause-plan
renew-requires-clause-plan c = subst (λ (n : ℕ). IsPlan c.args.c.now.program c.args.plan.now n) (sym (ap (λ (x : List Kept). length x) c.give_back.ensures.kept)) c.requires.plan

pub renew-requires-clause-stood : goal.renew-requires-clause-stood
renew-requires-clause-stood c =
    let C = c.args.c.now.program in
    let s = calls_of c.args.state.now in
    let k = c.args.k in
    let h = c.requires.kept.1 in
    let can = c.requires.can in
    let word = return_is h k can.0 can.1 c.unit_for-unit.result _ c.unit_for-unit.ensures.number c.in-Some.ensures in
    let later = core.give_back C s k (core.Delivers k c.in-Some.word) in
    let pos : 0 < k = omega (arith, c.if-k-eq0.false) in
    let waiting : c.unit-waiting.result ≡ C.unit (C.caller k) = c.unit-waiting.ensures.number ∙ ap C.unit c.caller-caller.ensures.number in
    subst (λ n. CanRenew C c.args.plan.now (Some k) c.give_back.new.state n) (sym waiting)
    (can_renew (good h) c.args.state.now c.give_back.new.state k c.in-Some.word (inv h) pos (can.1 ∙ ap (core.Delivers k) (sym word))
    c.give_back.ensures (h.known (C.unit (C.caller k))).wants (c.requires.recalls (C.unit (C.caller k))))

pub returns-clause-leads : goal.returns-clause-leads
returns-clause-leads c =
    let C = c.args.c.now.program in
    let s = calls_of c.args.state.now in
    let h = c.requires.kept.1 in
    let can = c.requires.can in
    let word = return_is h c.args.k can.0 can.1 c.unit_for-unit.result _ c.unit_for-unit.ensures.number c.in-Some.ensures in
    let waiting : c.unit-waiting.result ≡ C.unit (C.caller c.args.k) = c.unit-waiting.ensures.number ∙ ap C.unit c.caller-caller.ensures.number in
    leads c.args.c.now c.args.opening.now (core.Return c.args.k) c.renew.result c.args.state.now _ _ _ _ c.give_back.ensures c.renew.ensures.refreshes
    (return_next h c.args.k can.0 can.1 _ word) (λ v q. absurd q) (λ v ne.
    after_return C c.args.opening.now (good h) s (inv h) c.args.state.now.answers.items c.args.state.now.wants.each.items h.known c.args.k
    c.in-Some.word (can.1 ∙ ap (core.Delivers c.args.k) (sym word)) v (λ pos q. ne (q ∙ sym waiting)))

pub returns-clause-recalls : goal.returns-clause-recalls
returns-clause-recalls c =
    let C = c.args.c.now.program in
    let s = calls_of c.args.state.now in
    let k = c.args.k in
    let h = c.requires.kept.1 in
    let can = c.requires.can in
    let word = return_is h k can.0 can.1 c.unit_for-unit.result _ c.unit_for-unit.ensures.number c.in-Some.ensures in
    let later = core.give_back C s k (core.Delivers k c.in-Some.word) in
    let waiting : c.unit-waiting.result ≡ C.unit (C.caller k) = c.unit-waiting.ensures.number ∙ ap C.unit c.caller-caller.ensures.number in
    λ v. c.renew.ensures.recalls v (λ ne. recalls_return (good h) c.requires.plan c.args.state.now _ k c.in-Some.word c.unit-waiting.result v
    c.give_back.ensures (λ pos. waiting) (λ q. absurd (ne q)) (c.requires.recalls v))

pub returns-clause-cells : goal.returns-clause-cells
returns-clause-cells c = c.renew.ensures.cells ∙ ap (λ (x : List Kept). length x) c.give_back.ensures.kept
