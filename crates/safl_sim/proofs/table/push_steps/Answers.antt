use Rattle.std.proofs.Common.{◌≡◌, ◌+◌, ◌-◌, ℕ, length, get_or, subst, ◌∙◌, arith}
use Rattle.safl_net.specs.declared.cell.Sig.{Sig}
use Rattle.safl_net.specs.Making.{numbers}
use Rattle.safl_sim.specs.Readers.{AreLists}
use Rattle.safl_sim.proofs.Builds.{numbers_at}
use Rattle.safl_sim.proofs.table.push_steps.Goals as goal

abbrev none : Sig
none = record { 0 = 0 }

pub push_step-requires-clause-wire : goal.push_step-requires-clause-wire
push_step-requires-clause-wire c =
    let wires = c.args.wires.now in
    let k : ℕ = length wires - 1 - c.wires.i in
    c.requires.order.wires k (get_or wires k none).0 (numbers_at wires k none (let a = c.wires-test.true in omega (arith, a)))

pub wires-preserved : goal.wires-preserved
wires-preserved c =
    let wires = c.args.wires.now in
    let ws = numbers wires in
    let i = c.wires.i in
    let k : ℕ = length wires - 1 - i in
    let early = c.wires-test.true in
    let at = numbers_at wires k none (omega (arith, early)) in
    record {
      long = c.push_step.ensures.long ∙ c.wires.invariant.long;
      lists = λ regs w.
          let before = subst (λ x. AreLists c.args.net.now ws regs x 0 c.wires.lists) (let z : length wires - i ≡ k + 1 = omega (arith, early) in z) (c.wires.invariant.lists regs w) in
          subst (λ x. AreLists c.args.net.now ws regs x 0 c.push_step.new.lists) (let z : k ≡ length wires - (i + 1) = omega (arith, early) in z)
          (c.in_ok-push_step.ensures.more ws regs at before);
    }
