use Rattle.std.proofs.Common.{◌≡◌, ◌+◌, ◌/◌, ℕ, List, length, sym, ap, subst, ◌∙◌, arith}
use Rattle.safl_net.specs.Netlist.{Netlist}
use Rattle.safl_net.specs.Making.{numbers}
use Rattle.safl_net.specs.Rules.{IsNetlist}
use Rattle.safl_net.proofs.Keeping.{numbers_length}
use Rattle.safl_order.specs.Order.{IsOrder}
use Rattle.safl_sim.specs.Guards.{AreGuards}
use Rattle.safl_sim.specs.Places.{inputs_of, resets}
use Rattle.safl_sim.specs.declared.step.Register.{Register}
use Rattle.safl_sim.specs.declared.step.Step.{Step}
use Rattle.safl_sim.specs.Marks.{marked, first_register}
use Rattle.safl_sim.specs.Readers.{Lists, AreReaders, Inside}
use Rattle.safl_sim.specs.States.{placed, AreReset}
use Rattle.safl_sim.specs.Steps.{AreSteps, AreRegisters}
use Rattle.safl_sim.proofs.Builds.{keeps_new, placed_resets}
use Rattle.safl_sim.proofs.Cycle.{registers_known}
use Rattle.safl_sim.proofs.Few.{few_wires}
use Rattle.safl_sim.proofs.parts.Parts.new.Goals as goal

pub all_marked-requires-clause-few : goal.all_marked-requires-clause-few
all_marked-requires-clause-few c =
    let a = few_wires c.args.ordered.now.net c.args.ordered.now.wires (subst IsNetlist c.net-net.ensures.net c.signals-count.ensures.netlist) c.wires-2.ensures.order in
    let b = ap length c.wires-3.ensures.wires in
    let d = numbers_length c.wires-3.result.now in
    omega (arith, a, b, d)

pub all_marked-requires-clause-some : goal.all_marked-requires-clause-some
all_marked-requires-clause-some c =
    let a = c.in_ok-registers.ensures.few in
    let b = c.signals-count.ensures.netlist.few in
    let d = ap length c.as_slice-kept.ensures.value in
    omega (arith, a, b, d)

pub new-requires-2 : goal.new-requires-2
new-requires-2 c =
    let a = c.in_ok-registers.ensures.few in
    let b = c.signals-count.ensures.netlist.few in
    let d = ap length c.as_slice-kept.ensures.value in
    let e = c.word_count.ensures in
    omega (arith, a, b, d, e)

pub table_of-requires-clause-few : goal.table_of-requires-clause-few
table_of-requires-clause-few c =
    let a = few_wires c.args.ordered.now.net c.args.ordered.now.wires (subst IsNetlist c.net-net.ensures.net c.signals-count.ensures.netlist) c.wires.ensures.order in
    let b = ap length c.wires.ensures.wires in
    let d = numbers_length c.wires.result.now in
    omega (arith, a, b, d)

pub table_of-requires-clause-some : goal.table_of-requires-clause-some
table_of-requires-clause-some c =
    let a = c.in_ok-registers.ensures.few in
    let b = c.signals-count.ensures.netlist.few in
    let d = ap length c.as_slice-kept.ensures.value in
    omega (arith, a, b, d)

pub table_of-requires-clause-order : goal.table_of-requires-clause-order
table_of-requires-clause-order c =
    subst (λ (m : Netlist). IsOrder m (numbers c.wires.result.now)) (sym c.net-net.ensures.net)
    (subst (λ (x : List ℕ). IsOrder c.args.ordered.now.net x) (sym c.wires.ensures.wires) c.wires.ensures.order)

pub table_of-requires-clause-registers : goal.table_of-requires-clause-registers
table_of-requires-clause-registers c = subst (λ (l : List Register). AreRegisters c.net-net.result.now (length c.net-net.result.now.signals) l)
    (sym c.as_slice-kept.ensures.value) c.in_ok-registers.ensures

pub returns-clause-keeps : goal.returns-clause-keeps
returns-clause-keeps c =
    let o = c.args.ordered.now in
    let e = c.net-net.ensures.net in
    let ws : List ℕ = numbers c.wires-2.result.now in
    let made = subst IsNetlist e c.signals-count.ensures.netlist in
    let many : length c.wires-3.result.now ≡ length o.wires = sym (numbers_length c.wires-3.result.now) ∙ ap length c.wires-3.ensures.wires in
    let many3 : length c.wires.result.now ≡ length o.wires = sym (numbers_length c.wires.result.now) ∙ ap length c.wires.ensures.wires in
    let regs = c.in_ok-registers.registers.items in
    let kept = c.as_slice-kept.ensures.value in
    let starts = c.in_ok-table.table.starts.items in
    let readers = c.in_ok-table.table.readers.items in
    let marks = c.in_ok-marks.marks in
    let waiting = c.in_ok-waiting.waiting in
    let states = c.in_ok-state.state.items in
    let are = subst (λ (m : Netlist). AreRegisters m (length m.signals) regs) e c.in_ok-registers.ensures in
    let reset = subst (λ (l : List Register). AreReset o.net l (length l) states) kept
    (subst (λ (m : Netlist). AreReset m c.as_slice-kept.result.now (length c.as_slice-kept.result.now) states) e c.in_ok-state.ensures) in
    record {
      long = reset.long;
      keeps = keeps_new o c.in_ok-made.made.steps.items c.in_ok-inputs_of.field-0.items regs starts readers marks waiting (placed (length o.net.signals) regs states) c.in_ok-values.values
          made
          c.wires-2.ensures.order
          (subst (λ (x : List ℕ). AreSteps o.net x c.in_ok-made.made.steps.items) c.wires-2.ensures.wires
          (subst (λ (m : Netlist). AreSteps m ws c.in_ok-made.made.steps.items) e c.in_ok-made.ensures.steps))
          (c.in_ok-inputs_of.ensures ∙ ap inputs_of e)
          (subst (λ (m : Netlist). AreRegisters m (length m.signals) regs) e c.in_ok-registers.ensures)
          (subst (λ (k : ℕ). Lists starts readers (length o.net.signals) ((first_register k + length regs + 63) / 64)) many3
          (subst (λ (l : List Register). Lists starts readers (length o.net.signals) ((first_register (length c.wires.result.now) + length l + 63) / 64)) kept
          (subst (λ (m : Netlist). Lists starts readers (length m.signals)
          ((first_register (length c.wires.result.now) + length c.as_slice-kept.result.now + 63) / 64)) e c.in_ok-table.ensures.lists)))
          (subst (λ (x : List ℕ). AreReaders o.net x regs starts readers) c.wires.ensures.wires
          (subst (λ (l : List Register). AreReaders o.net (numbers c.wires.result.now) l starts readers) kept
          (subst (λ (m : Netlist). AreReaders m (numbers c.wires.result.now) c.as_slice-kept.result.now starts readers) e c.in_ok-table.ensures.readers)))
          (let a = c.in_ok-marks.ensures.long in let b = ap length kept in omega (arith, a, b, many))
          (few_wires o.net o.wires made c.wires-2.ensures.order)
          (let a = c.in_ok-registers.ensures.few in let b = c.signals-count.ensures.netlist.few in omega (arith, a, b))
          (subst (λ (k : ℕ). Inside k (length regs) marks) many (subst (λ (l : List Register). Inside (length c.wires-3.result.now) (length l) marks) kept c.in_ok-marks.ensures.inside))
          (λ k h. c.in_ok-marks.ensures.step k (omega (arith, h, many)))
          (λ k h. subst (λ (x : ℕ). marked marks (first_register x + k) ≡ 1) many (c.in_ok-marks.ensures.register k (let b = ap length kept in omega (arith, h, b))))
          (let a = c.in_ok-waiting.ensures.long in let b = ap length kept in omega (arith, a, b))
          c.in_ok-waiting.ensures.none
          (placed_resets o.net regs states are reset)
          (c.in_ok-values.ensures ∙ c.deref.ensures.value ∙ c.in_ok-numbers.ensures ∙ ap resets e);
    }

pub returns-clause-state : goal.returns-clause-state
returns-clause-state c =
    let o = c.args.ordered.now in
    let e = c.net-net.ensures.net in
    let regs = c.in_ok-registers.registers.items in
    let kept = c.as_slice-kept.ensures.value in
    let states = c.in_ok-state.state.items in
    let are = subst (λ (m : Netlist). AreRegisters m (length m.signals) regs) e c.in_ok-registers.ensures in
    let reset = subst (λ (l : List Register). AreReset o.net l (length l) states) kept
    (subst (λ (m : Netlist). AreReset m c.as_slice-kept.result.now (length c.as_slice-kept.result.now) states) e c.in_ok-state.ensures) in
    placed_resets o.net regs states are reset

pub states_of-requires : goal.states_of-requires
states_of-requires c =
    let n = c.net-net.result.now in
    let places = length n.signals in
    let kept = subst (λ (l : List Register). AreRegisters n places l) (sym c.as_slice-kept.ensures.value) c.in_ok-registers.ensures in
    registers_known n c.as_slice-kept.result.now places kept

pub groups_of-requires : goal.groups_of-requires
groups_of-requires c =
    let n = c.net-net.result.now in
    let places = length n.signals in
    let words = (first_register (length c.wires.result.now) + length c.as_slice-kept.result.now + 63) / 64 in
    let kept = subst (λ (l : List Register). AreRegisters n places l) (sym c.as_slice-kept.ensures.value) c.in_ok-registers.ensures in
    record {
      lists = (
        places,
        words,
        subst (λ (l : List ℕ). Lists l c.deref-5.result.now places words) (sym c.deref-4.ensures.value)
            (subst (λ (l : List ℕ). Lists c.in_ok-table.table.starts.items l places words) (sym c.deref-5.ensures.value) c.in_ok-table.ensures.lists),
        registers_known n c.as_slice-kept.result.now places kept,
      );
    }

pub invariant_of-plan-clause-guard_for_each : goal.invariant_of-plan-clause-guard_for_each
invariant_of-plan-clause-guard_for_each c = c.in_ok-guards.ensures.0 ∙ ap length c.deref-8.ensures.value

pub invariant_of-plan-clause-guarded : goal.invariant_of-plan-clause-guarded
invariant_of-plan-clause-guarded c =
    let guards = c.in_ok-guards.guards.items in
    let starts = c.in_ok-table.table.starts.items in
    subst (λ (l : List Step). AreGuards l starts c.in_ok-table.table.readers.items guards) c.deref-6.ensures.value
    (subst (λ (l : List ℕ). AreGuards c.deref-6.result.now l c.in_ok-table.table.readers.items guards) c.deref-7.ensures.value
    (subst (λ (l : List ℕ). AreGuards c.deref-6.result.now c.deref-7.result.now l guards) c.deref-8.ensures.value c.in_ok-guards.ensures.1))
