use Rattle.std.proofs.Common.{refl, sym, ap, subst, arith}
use Rattle.std.proofs.lemmas.List.{with_items_is}
use Rattle.safl_sim.specs.Cycles.{state_of}
use Rattle.safl_sim.specs.Places.{AreInputs}
use Rattle.safl_sim.specs.Simulation.{Simulation}
use Rattle.safl_sim.proofs.Cycle.{cycle_through, states_same, ticks_same}
use Rattle.safl_sim.proofs.sim.Sim.tick.Goals as goal

pub invariant_of-self : goal.invariant_of-self
invariant_of-self c =
    let s = c.self.inside in
    let are : AreInputs s.ordered.net c.args.inputs.now = subst (λ (x : Simulation). AreInputs x.net c.args.inputs.now) (sym c.self.view_is) c.requires in
    let t = cycle_through s.ordered s.plan s.marks s.marks s.waiting s.waiting c.args.inputs.now s.state.items _ s.values s.values
    c.cycle-count.new.marks c.cycle-count.new.waiting c.cycle-count.new.state c.cycle-count.new.values
    refl refl c.deref_mut.ensures.value refl (λ k. c.cycle-count.ensures s.ordered k are) c.self.invariant in
    states_same s.ordered s.plan c.cycle-count.new.marks c.cycle-count.new.marks c.cycle-count.new.waiting c.cycle-count.new.waiting
    c.cycle-count.new.state _ c.cycle-count.new.values c.cycle-count.new.values
    refl
    refl
    (with_items_is s.state c.cycle-count.new.state (let a = t.keeps.long in let b = c.self.invariant.long in let d = s.state.ok.0 in omega (arith, a, b, d)))
    refl
    t.keeps

pub returns : goal.returns
returns c =
    let s = c.self.inside in
    let are : AreInputs s.ordered.net c.args.inputs.now = subst (λ (x : Simulation). AreInputs x.net c.args.inputs.now) (sym c.self.view_is) c.requires in
    let t = cycle_through s.ordered s.plan s.marks s.marks s.waiting s.waiting c.args.inputs.now s.state.items _ s.values s.values
    c.cycle-count.new.marks c.cycle-count.new.waiting c.cycle-count.new.state c.cycle-count.new.values
    refl refl c.deref_mut.ensures.value refl (λ k. c.cycle-count.ensures s.ordered k are) c.self.invariant in
    ticks_same s.ordered.net c.args.self.now (state_of s.ordered s.plan s.state.items) s.values (state_of s.ordered s.plan c.cycle-count.new.state) _
    c.cycle-count.new.values c.cycle-count.new.values c.args.inputs.now c.self.view_is
    (ap (state_of s.ordered s.plan) (with_items_is s.state c.cycle-count.new.state (let a = t.keeps.long in let b = c.self.invariant.long in let d = s.state.ok.0 in omega (arith, a, b, d))))
    refl
    t.ticks
