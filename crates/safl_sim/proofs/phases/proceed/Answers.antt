use Rattle.std.proofs.Common.{◌≡◌, ℕ, ◌*◌, List, length, sym, ap, subst, ◌∙◌, arith}
use Rattle.safl_sim.specs.declared.step.Register.{Register}
use Rattle.safl_sim.specs.Marks.{first_register}
use Rattle.safl_sim.specs.States.{placed, AreOnce}
use Rattle.safl_sim.specs.Cycles.{state_of}
use Rattle.safl_sim.specs.Writes.{KeepsOn}
use Rattle.safl_sim.proofs.Cycle.{reg_within, next_within, numbers_at, shown_low, nexts_low, begins, keeps_start, cycles}
use Rattle.safl_sim.proofs.phases.proceed.Goals as goal

-- the registers as a slice, and the places as many as the values
kept_along : {first place : ℕ} {values start was marks waiting : List ℕ} {regs regs' : List Register} {count count' : ℕ} (numbers : List ℕ) → regs ≡ regs' → count ≡ count'
    → KeepsOn first regs' values place start was (placed count' regs' numbers) marks waiting → KeepsOn first regs values place start was (placed count regs numbers) marks waiting
kept_along {first = first} {place = place} {values = values} {start = start} {was = was} {marks = marks} {waiting = waiting} {regs' = regs'} {count = count} numbers e f k =
    subst (λ (x : List Register). KeepsOn first x values place start was (placed count x numbers) marks waiting) (sym e)
    (subst (λ x. KeepsOn first regs' values place start was (placed x regs' numbers) marks waiting) (sym f) k)

pub show_registers-requires-clause-waits : goal.show_registers-requires-clause-waits
show_registers-requires-clause-waits c =
    let o = c.requires.0 in
    let k = c.requires.1 in
    (state_of o c.args.plan.now c.args.state.now, numbers_at o c.args.plan.now c.args.marks.now c.args.waiting.now c.args.state.now c.args.values.now k, k.keeps.waits)

pub show_registers-requires-clause-registers : goal.show_registers-requires-clause-registers
show_registers-requires-clause-registers c = record {
  within = λ i r e.
      let a = reg_within c.requires.0 c.args.plan.now c.args.marks.now c.args.waiting.now c.args.state.now c.args.values.now c.requires.1 i r e in
      let b = c.requires.1.keeps.long in
      omega (arith, a, b);
  once = c.requires.1.keeps.registers.once;
  low = shown_low c.requires.0 c.args.plan.now c.args.marks.now c.args.waiting.now c.args.state.now c.args.values.now c.requires.1;
}

pub run_steps-count-requires-clause-runs : goal.run_steps-count-requires-clause-runs
run_steps-count-requires-clause-runs c =
    let o = c.requires.0 in
    let now = state_of o c.args.plan.now c.args.state.now in (
      o,
      now,
      c.show_registers.new.values,
      begins o c.args.plan.now c.args.marks.now c.args.waiting.now c.args.state.now c.args.values.now c.requires.1 c.show_registers.new.values c.show_registers.new.marks
          (c.show_registers.ensures.shown now) c.show_registers.ensures.count.marks (c.show_registers.ensures.goes o.net o.wires now),
    )

pub keep_registers-requires-clause-registers : goal.keep_registers-requires-clause-registers
keep_registers-requires-clause-registers c =
    let o = c.requires.0 in
    let k = c.requires.1 in
    let now = state_of o c.args.plan.now c.args.state.now in
    let begun = begins o c.args.plan.now c.args.marks.now c.args.waiting.now c.args.state.now c.args.values.now k c.show_registers.new.values c.show_registers.new.marks
    (c.show_registers.ensures.shown now) c.show_registers.ensures.count.marks (c.show_registers.ensures.goes o.net o.wires now) in
    let ran = c.run_steps-count.ensures.runs o now c.show_registers.new.values begun in
    let long = ran.long in
    let same = c.as_slice-registers.ensures.value in
    let count = ap (λ (x : List Register). length x) same in
    record {
      few = let a = k.keeps.few in let b = c.run_steps-count.ensures.long in let d = c.show_registers.ensures.count.marks in omega (arith, a, b, d);
      room = let a = k.keeps.waits.room in let b = c.show_registers.ensures.count.waiting in omega (arith, a, b, count);
      states = k.long ∙ sym count;
      within = λ i r e.
          let a = reg_within o c.args.plan.now c.args.marks.now c.args.waiting.now c.args.state.now c.args.values.now k i r (rw (← c.as_slice-registers.ensures.value) e) in
          omega (arith, a, long);
      next = λ i r e.
          let a = next_within o c.args.plan.now c.args.marks.now c.args.waiting.now c.args.state.now c.args.values.now k i r (rw (← c.as_slice-registers.ensures.value) e) in
          omega (arith, a, long);
      low = λ i r e.
          nexts_low o c.args.plan.now c.args.marks.now c.args.waiting.now c.args.state.now c.args.values.now k c.run_steps-count.new.values ran.fits i r (rw (← c.as_slice-registers.ensures.value) e);
      once = subst AreOnce (sym same) k.keeps.registers.once;
    }

pub keep_registers-requires-clause-keeps : goal.keep_registers-requires-clause-keeps
keep_registers-requires-clause-keeps c =
    let o = c.requires.0 in
    let k = c.requires.1 in
    let now = state_of o c.args.plan.now c.args.state.now in
    let first = c.word_count-first.result * 64 in
    let begun = begins o c.args.plan.now c.args.marks.now c.args.waiting.now c.args.state.now c.args.values.now k c.show_registers.new.values c.show_registers.new.marks
    (c.show_registers.ensures.shown now) c.show_registers.ensures.count.marks (c.show_registers.ensures.goes o.net o.wires now) in
    let ran = c.run_steps-count.ensures.runs o now c.show_registers.new.values begun in
    let at_first : c.word_count-first.result * 64 ≡ first_register (length c.args.plan.now.steps.items) = (let a = c.word_count-first.ensures in omega (arith, a)) in
    let start = keeps_start o c.args.plan.now c.args.marks.now c.args.waiting.now c.args.state.now c.args.values.now k c.show_registers.new.values
    c.run_steps-count.new.values c.run_steps-count.new.marks c.show_registers.new.waiting
    first at_first ran c.show_registers.ensures.none in (
      now,
      c.run_steps-count.new.marks,
      kept_along c.args.state.now c.as_slice-registers.ensures.value ran.long start,
    )

pub returns : goal.returns
returns c = λ o words k has.
    let now = state_of o c.args.plan.now c.args.state.now in
    let first = c.word_count-first.result * 64 in
    let begun = begins o c.args.plan.now c.args.marks.now c.args.waiting.now c.args.state.now c.args.values.now k c.show_registers.new.values c.show_registers.new.marks
    (c.show_registers.ensures.shown now) c.show_registers.ensures.count.marks (c.show_registers.ensures.goes o.net o.wires now) in
    let ran = c.run_steps-count.ensures.runs o now c.show_registers.new.values begun in
    let at_first : c.word_count-first.result * 64 ≡ first_register (length c.args.plan.now.steps.items) = (let a = c.word_count-first.ensures in omega (arith, a)) in
    let start = keeps_start o c.args.plan.now c.args.marks.now c.args.waiting.now c.args.state.now c.args.values.now k c.show_registers.new.values
    c.run_steps-count.new.values c.run_steps-count.new.marks c.show_registers.new.waiting
    first at_first ran c.show_registers.ensures.none in
    let ends = c.keep_registers.ensures.keeps now c.run_steps-count.new.marks
    (kept_along c.args.state.now c.as_slice-registers.ensures.value ran.long start) in
    cycles o c.args.plan.now c.args.marks.now c.args.waiting.now c.args.state.now c.args.values.now k c.show_registers.new.values
    c.run_steps-count.new.values c.run_steps-count.new.marks c.keep_registers.new.marks
    c.keep_registers.new.waiting c.keep_registers.new.state first (c.show_registers.ensures.shown now) ran at_first
    (c.run_steps-count.ensures.long ∙ c.show_registers.ensures.count.marks) c.keep_registers.ensures.count.marks
    (c.keep_registers.ensures.count.waiting ∙ c.show_registers.ensures.count.waiting) c.keep_registers.auto.state
    (kept_along c.keep_registers.new.state (sym c.as_slice-registers.ensures.value) (sym ran.long) ends)
    words has
