use Rattle.std.proofs.Common.{◌+◌, refl, subst, ◌∙◌, arith}
use Rattle.safl_sim.specs.Steps.{Runs}
use Rattle.safl_sim.proofs.MarkedSteps.{runs_skip}
use Rattle.safl_sim.proofs.phases.run_marked.Goals as goal

pub word_count-end-requires : goal.word_count-end-requires
word_count-end-requires c =
    let r = c.requires.runs in
    let a = r.4.room in
    let b = c.requires.few in
    omega (arith, a, b)

pub run_word-count-requires-clause-within : goal.run_word-count-requires-clause-within
run_word-count-requires-clause-within c =
    let r = c.requires.runs in
    let a = r.4.room in
    let b = c.words.invariant.long in
    let d = c.words-test.true in
    let e = c.word_count-end.ensures in
    omega (arith, a, b, d, e)

pub run_word-count-requires-clause-steps : goal.run_word-count-requires-clause-steps
run_word-count-requires-clause-steps c =
    let d = c.words-test.true in
    let e = c.word_count-end.ensures in
    omega (arith, d, e)

pub run_word-count-requires-clause-runs : goal.run_word-count-requires-clause-runs
run_word-count-requires-clause-runs c = let r = c.requires.runs in (r.0, r.1, r.2, r.3, c.words.invariant.runs r.0 r.1 r.2 r.3 r.4)

pub words-init : goal.words-init
words-init c = record {
  most = c.next-w.ensures.most;
  count = omega arith;
  long = refl;
  runs = λ o regs now start w. runs_skip o c.args.plan.now.steps.items regs now c.args.plan.now.starts.items c.args.plan.now.readers.items start 0 c.next-w.result c.args.values.now c.args.marks.now
      (subst (λ k. Runs o c.args.plan.now.steps.items regs now c.args.plan.now.starts.items c.args.plan.now.readers.items start k c.args.values.now
      c.args.marks.now) (omega arith) w) c.next-w.ensures.none;
}

pub words-preserved : goal.words-preserved
words-preserved c = record {
  most = c.next-w-in-words.ensures.most;
  count = (let a = c.run_word-count.ensures.count in let b = c.words.invariant.count in let d = c.next-w-in-words.ensures.least in omega (arith, a, b, d));
  long = c.run_word-count.ensures.long ∙ c.words.invariant.long;
  runs = λ o regs now start w. runs_skip o c.args.plan.now.steps.items regs now c.args.plan.now.starts.items c.args.plan.now.readers.items start
      (c.words.w + 1) c.next-w-in-words.result c.run_word-count.new.values c.run_word-count.new.marks
      (c.run_word-count.ensures.runs o regs now start (c.words.invariant.runs o regs now start w)) c.next-w-in-words.ensures.none;
}

pub returns-clause-runs : goal.returns-clause-runs
returns-clause-runs c = λ o regs now start w.
    subst (λ k. Runs o c.args.plan.now.steps.items regs now c.args.plan.now.starts.items c.args.plan.now.readers.items start k c.words.values c.words.marks)
    (let a = c.words-test.false in let d = c.word_count-end.ensures in let b = c.words.invariant.most in omega (arith, a, b, d))
    (c.words.invariant.runs o regs now start w)
