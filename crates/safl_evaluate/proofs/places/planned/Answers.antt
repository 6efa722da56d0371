use Rattle.safl_evaluate.proofs.Common.{Laid, Place, SameOutside, nodes, shown_term}
use Rattle.std.proofs.Common.{◌≡◌, ℕ, suc, ◌+◌, ◌<◌, List, length, rules, sym, ap, ◌∙◌, subst, slice_set, arith}
use Rattle.safl_term.specs.Terms.{Term}
use Rattle.safl_evaluate.proofs.Refilled.{refilled, refilled_long}
use Rattle.safl_evaluate.proofs.PlansByBodies.{ArePlanned, planned_none, planned_next, before_next, before_most}
use Rattle.safl_evaluate.proofs.places.planned.Goals as goal

pub loop-f-init : goal.loop-f-init
loop-f-init c = record { planned = planned_none c.args.c.now c.in_ok-places.places.items c.in_ok-bodies.bodies.items; places = search rules; bodies = search rules }

pub lay-at-requires : goal.lay-at-requires
lay-at-requires c =
    let f = c.loop-f.f in
    let lt : f < c.args.c.now.program.functions = omega (arith, c.loop-f-test.true, c.functions-f-end.ensures.count, c.loop-f.auto.f-end) in
    let long = ap (λ (l : List Place). length l) c.deref_mut.ensures.value in
    omega (
      arith,
      before_most c.args.c.now c.body.ensures.checked (suc f) (omega (arith, lt)),
      before_next c.args.c.now f,
      c.loop-f.invariant.planned.count,
      ap nodes
          c.body.ensures.term,
      long,
      c.loop-f.invariant.places,
    )

pub loop-f-preserved : goal.loop-f-preserved
loop-f-preserved c =
    let C = c.args.c.now.program in
    let f = c.loop-f.f in
    let at = c.loop-f.at in
    let P = c.loop-f.places.items in
    let lt : f < C.functions = omega (arith, c.loop-f-test.true, c.functions-f-end.ensures.count, c.loop-f.auto.f-end) in
    let places = refilled c.loop-f.places c.lay-at.new.places c.deref_mut.result.now c.lay-at.auto.places c.deref_mut.ensures.value in
    let term = c.body.ensures.term in
    let outside = subst (λ (t : Term). SameOutside at (at + nodes t) P c.lay-at.new.places) term
    (subst (λ (l : List Place). SameOutside at (at + nodes (shown_term c.body.result.now)) l c.lay-at.new.places) c.deref_mut.ensures.value
    c.lay-at.ensures.outside) in
    let laid = subst (λ (t : Term). Laid c.lay-at.new.places at t) term c.lay-at.ensures.laid in
    let one : suc f ≡ f + 1 = omega arith in
    let next = c.lay-at.ensures.place.next ∙ ap (λ (t : Term). at + nodes t) term in
    record {
      planned = subst (λ (l : List Place). ArePlanned c.args.c.now l (slice_set c.loop-f.bodies.items f at) (f + 1) c.lay-at.result.next) (sym places)
          (subst (λ (i : ℕ). ArePlanned c.args.c.now c.lay-at.new.places (slice_set c.loop-f.bodies.items f at) i c.lay-at.result.next) one
          (planned_next c.args.c.now P c.lay-at.new.places c.loop-f.bodies.items f at c.lay-at.result.next c.loop-f.invariant.planned lt
          (omega (arith, lt, c.loop-f.invariant.bodies)) laid outside next));
      places = refilled_long c.loop-f.places c.lay-at.new.places ∙ c.loop-f.invariant.places;
      bodies = search rules;
    }

pub returns : goal.returns
returns c =
    let h = c.loop-f.invariant.planned in
    let C = c.args.c.now.program in
    let f = c.loop-f.f in
    let all : (g : ℕ) → g < C.functions → g < f = λ g lt. omega (arith, lt, c.loop-f-test.false, c.functions-f-end.ensures.count, c.loop-f.auto.f-end) in
    record {
      bodies = c.loop-f.invariant.bodies;
      places = c.loop-f.invariant.places;
      laid = λ g lt. h.laid g (all g lt);
      within = λ g lt. omega (arith, h.within g (all g lt), h.count, before_most c.args.c.now c.functions.ensures.checked f (omega (arith, c.functions-f-end.ensures.count, c.loop-f.auto.f-end)));
      apart = λ g k l lt. h.apart g k l (all k lt);
    }
