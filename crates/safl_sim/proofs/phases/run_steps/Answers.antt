use Rattle.std.proofs.Common.{◌≡◌, ◌+◌, ◌*◌, ℕ, List, length, sym, ap, subst, ◌∙◌, arith}
use Rattle.safl_sim.specs.declared.step.Step.{Step}
use Rattle.safl_sim.specs.Marks.{first_register, HasRange}
use Rattle.safl_sim.specs.Steps.{Runs}
use Rattle.safl_sim.specs.Writes.{AllReady, after_steps}
use Rattle.safl_sim.proofs.MarkedSteps.{all_ran, all_ready}
use Rattle.safl_sim.proofs.phases.run_steps.Goals as goal

pub word_count-words-requires : goal.word_count-words-requires
word_count-words-requires c =
    let r = c.requires.runs in
    let a = r.3.room in
    let b = c.requires.few in
    let d = c.len.ensures in
    let e = c.args.plan.now.steps.ok.0 in
    omega (arith, a, b, d, e)

pub run_all-requires : goal.run_all-requires
run_all-requires c =
    let r = c.requires.runs in
    let p = c.args.plan.now in
    subst (λ (l : List Step). AllReady l c.args.values.now) (sym c.as_slice.ensures.value)
    (all_ready r.0 p.steps.items p.registers.items r.1 p.starts.items p.readers.items r.2 c.args.values.now c.args.marks.now r.3)

pub mark_range-requires-clause-room : goal.mark_range-requires-clause-room
mark_range-requires-clause-room c =
    let r = c.requires.runs in
    let a = r.3.room in
    let b = c.len-in-All.ensures in
    let d = c.word_count-words.ensures in
    let e = c.clear.ensures.long in
    let f = c.len.ensures in
    let g = c.args.plan.now.steps.ok.0 in
    let h = c.args.plan.now.registers.ok.0 in
    omega (arith, a, b, d, e, f, g, h)

pub returns-in-All-clause-runs : goal.returns-in-All-clause-runs
returns-in-All-clause-runs c = λ o held start w.
    let p = c.args.plan.now in
    let first : c.word_count-words.result * 64 ≡ first_register (length p.steps.items) =
    (let a = c.word_count-words.ensures in let b = c.len.ensures in let d = p.steps.ok.0 in omega (arith, a, b, d)) in
    let many : c.len-in-All.result ≡ length p.registers.items = (let a = c.len-in-All.ensures in let b = p.registers.ok.0 in omega (arith, a, b)) in
    let m = subst (λ (k : ℕ). HasRange k (k + length p.registers.items) c.clear.new.self c.mark_range.new.self) first
    (subst (λ (k : ℕ). HasRange (c.word_count-words.result * 64) (c.word_count-words.result * 64 + k) c.clear.new.self c.mark_range.new.self) many c.mark_range.ensures) in
    subst (λ l. Runs o p.steps.items p.registers.items held p.starts.items p.readers.items start (first_register (length p.steps.items)) l c.mark_range.new.self)
    (sym (c.run_all.ensures ∙ ap (λ (l : List Step). after_steps l c.args.values.now) c.as_slice.ensures.value))
    (all_ran o p.steps.items p.registers.items held p.starts.items p.readers.items start c.args.values.now c.args.marks.now c.clear.new.self
    c.mark_range.new.self w c.clear.ensures.long c.clear.ensures.none m)

pub returns-in-Marked-clause-runs : goal.returns-in-Marked-clause-runs
returns-in-Marked-clause-runs c = λ o held start w. c.run_marked.ensures.runs o c.args.plan.now.registers.items held start w

pub returns-in-Counted-clause-runs : goal.returns-in-Counted-clause-runs
returns-in-Counted-clause-runs c = λ o held start w. c.run_marked-in-Counted.ensures.runs o c.args.plan.now.registers.items held start w
