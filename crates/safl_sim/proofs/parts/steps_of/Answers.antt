use Rattle.std.proofs.Common.{◌≡◌, ◌+◌, ◌/◌, ◌<◌, ◌++◌, ◌∷◌, [], ℕ, List, length, get_or, slice_get, Some, sym, subst, arith}
use Rattle.safl_net.specs.declared.cell.Sig.{Sig}
use Rattle.safl_net.specs.Netlist.{Netlist}
use Rattle.safl_net.specs.Making.{numbers}
use Rattle.safl_order.specs.Order.{IsWire}
use Rattle.safl_order.proofs.Moves.{wire_in_net}
use Rattle.safl_sim.specs.declared.step.Step.{Step}
use Rattle.safl_sim.specs.Nears.{NearAt, NearOf}
use Rattle.safl_sim.proofs.Builds.{StepsTo, numbers_at, steps_more}
use Rattle.safl_sim.proofs.Nearing.{NearsTo, nears_more}
use Rattle.safl_sim.proofs.parts.steps_of.Goals as goal

abbrev none : Sig
none = record { 0 = 0 }

-- the place of a wire
place : (n : Netlist) (wires : List Sig) (i : ℕ) → i < length wires → ((j s : ℕ) → slice_get (numbers wires) j ≡ Some s → IsWire n s) → (get_or wires i none).0 < length n.signals
place n wires i h are = wire_in_net n (get_or wires i none).0 (are i (get_or wires i none).0 (numbers_at wires i none h))

pub bounds-starts-place : goal.bounds-starts-place
bounds-starts-place c =
    let a = place c.args.net.now c.args.wires.now c.wires.i c.wires-test.true c.requires.wires in
    let l = c.requires.lists.1.long in
    omega (arith, a, l)

pub bounds-starts-place-in-wires : goal.bounds-starts-place-in-wires
bounds-starts-place-in-wires c =
    let a = place c.args.net.now c.args.wires.now c.wires.i c.wires-test.true c.requires.wires in
    let l = c.requires.lists.1.long in
    omega (arith, a, l)

pub near_of-near-requires-clause-ordered : goal.near_of-near-requires-clause-ordered
near_of-near-requires-clause-ordered c = c.requires.lists.1.ordered (get_or c.args.wires.now c.wires.i none).0 (place c.args.net.now c.args.wires.now c.wires.i c.wires-test.true c.requires.wires)

pub step_of-requires-clause-wire : goal.step_of-requires-clause-wire
step_of-requires-clause-wire c = c.requires.wires c.wires.i (get_or c.args.wires.now c.wires.i none).0 (numbers_at c.args.wires.now c.wires.i none c.wires-test.true)

pub wires-preserved : goal.wires-preserved
wires-preserved c =
    let p = (get_or c.args.wires.now c.wires.i none).0 in
    let s = c.step_of.result in
    let g = c.near_of-near.result in
    let word = c.wires.i / 64 in
    let starts = c.args.starts.now in
    let readers = c.args.readers.now in
    let one = c.step_of.ensures.step in
    let own : NearOf starts readers c.wires.i s g.mask =
    (subst (λ x. NearAt starts readers x word (record { mask = g.mask; first = s.first; end = s.end })) (sym one.wire)
    (subst (λ x. NearAt starts readers p word (record { mask = g.mask; first = x; end = s.end })) (sym c.step_of.ensures.first)
    (subst (λ x. NearAt starts readers p word (record { mask = g.mask; first = g.first; end = x })) (sym c.step_of.ensures.end) c.near_of-near.ensures))) in
    record {
      steps = subst (λ (l : List Step). StepsTo c.args.net.now (numbers c.args.wires.now) l (c.wires.i + 1)) (sym c.in_ok-push.ensures.items)
          (steps_more c.args.net.now (numbers c.args.wires.now) c.wires.steps.items c.wires.i p s c.wires.invariant.steps (numbers_at c.args.wires.now c.wires.i none c.wires-test.true) one);
      near = subst (λ (l : List Step). NearsTo starts readers l c.push-in-wires.new.self.items (c.wires.i + 1)) (sym c.in_ok-push.ensures.items)
          (subst (λ (l : List ℕ). NearsTo starts readers (c.wires.steps.items ++ s ∷ []) l (c.wires.i + 1)) (sym c.in_ok-push-2.ensures.items)
          (nears_more starts readers c.wires.steps.items c.wires.masks.items c.wires.i s g.mask c.wires.invariant.near c.wires.invariant.steps.long own));
    }
