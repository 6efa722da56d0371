use Rattle.std.proofs.Common.{◌≡◌, inl, inr, ◌+◌, ◌-◌, ◌<◌, ◌≤◌, List, slice_index, sym, subst, arith}
use Rattle.std.proofs.lemmas.List.{with_items_is}
use Rattle.safl_sim.specs.declared.step.Guard.{Guard}
use Rattle.safl_sim.proofs.Guarding.{PartTo, GuardedTo, guarded_more}
use Rattle.safl_sim.proofs.guards.guards_of.Goals as goal

pub places-preserved : goal.places-preserved
places-preserved c =
    let steps = c.args.steps.now in
    let starts = c.args.starts.now in
    let readers = c.args.readers.now in
    let r = c.requires.lists in
    let p = c.places.p in
    let guards = c.places.guards in
    let new = c.guard_part.new.guards in
    let back : p - 1 + 1 ≡ p = (let a = c.places.auto.p in omega (arith, a)) in
    let next : p - 1 + 1 ≡ p + 1 - 1 = (let a = c.places.auto.p in omega (arith, a)) in
    let part : PartTo steps readers (p - 1) (slice_index starts (p - 1)) (slice_index starts (p - 1 + 1)) c.deref_mut.result.now new = record {
      long = c.guard_part.ensures.long;
      each = λ j k g f t e at. c.guard_part.ensures.each j k g f (subst (λ x. j < slice_index starts x) back t) e at;
      others = λ j o. c.guard_part.ensures.others j (elim o [ inl l ↦ inl l | inr l ↦ inr (subst (λ x. slice_index starts x ≤ j) back l) ]);
    } in
    let own = subst (λ (l : List Guard). PartTo steps readers (p - 1) (slice_index starts (p - 1)) (slice_index starts (p - 1 + 1)) l new) c.deref_mut.ensures.value part in
    let inside : p - 1 < r.0 = (let a = c.places.auto.p in let b = c.places-test.true in let d = r.2.long in omega (arith, a, b, d)) in
    subst (λ (l : List Guard). GuardedTo steps starts readers (p + 1 - 1) l)
    (sym (with_items_is guards new (let a = part.long in let b = c.deref_mut.ensures.len in let d = guards.ok.0 in omega (arith, a, b, d))))
    (subst (λ k. GuardedTo steps starts readers k new) next (guarded_more steps starts readers r.0 r.1 (p - 1) guards.items new r.2 inside c.places.invariant own))
