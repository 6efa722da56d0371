use Rattle.safl_core.proofs.Common.{CanFire, IsPlan, List, ap, calls_of, delivered, event_of, subst, sym, unit_at, ℕ, ◌+◌, ◌∙◌}
use Rattle.safl_calls.specs.Machine.{State}
use Rattle.safl_core.specs.declared.mode.Mode.{Mode}
use Rattle.safl_core.proofs.KeptByEvents.{good, inv}
use Rattle.safl_core.proofs.CallsOfSites.{waits_same}
use Rattle.safl_core.proofs.SeenByUnits.{Local, local_fire, marked_after, there}
use Rattle.safl_core.proofs.SetsPutRight.{places_of, places_after}
use Rattle.safl_core.proofs.StatesByEvents.{keeps_next}
use Rattle.safl_core.proofs.machine.Machine.fire.Goals as goal

pub concerned-concerned-requires : goal.concerned-concerned-requires
concerned-concerned-requires c =
    let m = c.self.inside in
    there c.self.invariant.kept (event_of c.args.e) (subst (λ x. CanFire x (event_of c.args.e)) (sym c.self.view_is) c.requires.can)

pub fire-touched-requires-clause-plan : goal.fire-touched-requires-clause-plan
fire-touched-requires-clause-plan c = c.self.invariant.planned

pub fire-touched-requires-clause-recalls : goal.fire-touched-requires-clause-recalls
fire-touched-requires-clause-recalls c = c.self.invariant.recalls

pub relist_after-requires-clause-kept : goal.relist_after-requires-clause-kept
relist_after-requires-clause-kept c =
    let m = c.self.inside in
    let can = subst (λ x. CanFire x (event_of c.args.e)) (sym c.self.view_is) c.requires.can in
    (m.events + 1, keeps_next m.checked.now m.opening m.events c.fire-touched.result m.state c.fire-touched.new.state c.self.invariant.kept (event_of c.args.e) can c.fire-touched.ensures.leads)

pub relist_after-requires-clause-places : goal.relist_after-requires-clause-places
relist_after-requires-clause-places c = places_of c.self.invariant.marked

pub relist_calls-requires-clause-kept : goal.relist_calls-requires-clause-kept
relist_calls-requires-clause-kept c =
    let m = c.self.inside in
    let can = subst (λ x. CanFire x (event_of c.args.e)) (sym c.self.view_is) c.requires.can in
    (m.events + 1, keeps_next m.checked.now m.opening m.events c.fire-touched.result m.state c.fire-touched.new.state c.self.invariant.kept (event_of c.args.e) can c.fire-touched.ensures.leads)

pub relist_calls-requires-clause-span : goal.relist_calls-requires-clause-span
relist_calls-requires-clause-span c = c.fire-touched.ensures.leads.wants.most

pub relist_calls-requires-clause-there : goal.relist_calls-requires-clause-there
relist_calls-requires-clause-there c =
    let m = c.self.inside in
    there c.self.invariant.kept (event_of c.args.e) (subst (λ x. CanFire x (event_of c.args.e)) (sym c.self.view_is) c.requires.can)

pub relist_calls-requires-clause-places : goal.relist_calls-requires-clause-places
relist_calls-requires-clause-places c = places_after (places_of c.self.invariant.marked) c.relist_after.ensures

pub invariant_of-self : goal.invariant_of-self
invariant_of-self c =
    let m = c.self.inside in
    let h = c.self.invariant in
    let C = m.checked.now.program in
    let can = subst (λ x. CanFire x (event_of c.args.e)) (sym c.self.view_is) c.requires.can in
    let kept = h.kept in
    let u = c.concerned-concerned.result.unit in
    let w = c.concerned-concerned.result.other in
    let t = c.fire-touched.new.state in
    let touched = c.fire-touched.result in
    let leads = c.fire-touched.ensures.leads in
    let fires = local_fire kept (event_of c.args.e) can u w c.concerned-concerned.ensures.concerns in
    let local : Local C (calls_of m.state) (calls_of c.fire-touched.new.state) u w = subst (λ (s : State). Local C (calls_of m.state) s u w) (sym leads.next) fires in
    let to = c.delivered_to-before.ensures ∙ ap (λ (x : List Mode). delivered (unit_at x u)) c.deref.ensures.value in
    record {
      kept = keeps_next m.checked.now m.opening m.events touched m.state t kept (event_of c.args.e) can leads;
      marked = marked_after C m.opening (good kept) (calls_of m.state) (calls_of t) (inv kept) u w local
          m.sets c.relist_after.new.enabled c.relist_calls.new.enabled c.delivered_to-before.result to touched (event_of c.args.e)
          (waits_same m.checked.now m.opening m.events touched m.state t kept (event_of c.args.e) can leads)
          h.marked c.relist_after.ensures c.relist_calls.ensures;
      planned = subst (λ (n : ℕ). IsPlan C m.plan n) (sym c.fire-touched.ensures.cells) h.planned;
      recalls = c.fire-touched.ensures.recalls;
    }
