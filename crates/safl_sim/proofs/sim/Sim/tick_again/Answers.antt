use Rattle.std.proofs.Common.{refl, sym, ap, subst, arith}
use Rattle.std.proofs.lemmas.List.{with_items_is}
use Rattle.safl_sim.specs.Cycles.{state_of}
use Rattle.safl_sim.specs.Places.{HasWords}
use Rattle.safl_sim.specs.Simulation.{Simulation}
use Rattle.safl_sim.proofs.Cycle.{cycle_through, some_words, states_same, ticks_same}
use Rattle.safl_sim.proofs.sim.Sim.tick_again.Goals as goal

pub invariant_of-self : goal.invariant_of-self
invariant_of-self c =
    let s = c.self.inside in
    let w = some_words s.ordered.net s.values in
    let t = cycle_through s.ordered s.plan s.marks s.marks s.waiting s.waiting w.0 s.state.items _ s.values s.values c.proceed-count.new.marks
    c.proceed-count.new.waiting c.proceed-count.new.state c.proceed-count.new.values
    refl refl c.deref_mut.ensures.value refl (λ k. c.proceed-count.ensures s.ordered w.0 k w.1) c.self.invariant in
    states_same s.ordered s.plan c.proceed-count.new.marks c.proceed-count.new.marks c.proceed-count.new.waiting c.proceed-count.new.waiting
    c.proceed-count.new.state _ c.proceed-count.new.values c.proceed-count.new.values
    refl
    refl
    (with_items_is s.state c.proceed-count.new.state (let a = t.keeps.long in let b = c.self.invariant.long in let d = s.state.ok.0 in omega (arith, a, b, d)))
    refl
    t.keeps

pub returns : goal.returns
returns c = λ words has.
    let s = c.self.inside in
    let given = subst (λ (x : Simulation). HasWords x.net x.values words) (sym c.self.view_is) has in
    let t = cycle_through s.ordered s.plan s.marks s.marks s.waiting s.waiting words s.state.items _ s.values s.values c.proceed-count.new.marks
    c.proceed-count.new.waiting c.proceed-count.new.state c.proceed-count.new.values
    refl refl c.deref_mut.ensures.value refl (λ k. c.proceed-count.ensures s.ordered words k given) c.self.invariant in
    ticks_same s.ordered.net c.args.self.now (state_of s.ordered s.plan s.state.items) s.values (state_of s.ordered s.plan c.proceed-count.new.state)
    _ c.proceed-count.new.values c.proceed-count.new.values words c.self.view_is
    (ap (state_of s.ordered s.plan) (with_items_is s.state c.proceed-count.new.state (let a = t.keeps.long in let b = c.self.invariant.long in let d = s.state.ok.0 in omega (arith, a, b, d))))
    refl
    t.ticks
