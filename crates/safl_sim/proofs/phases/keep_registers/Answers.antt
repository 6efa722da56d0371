use Rattle.std.proofs.Common.{◌+◌, ◌*◌, length, refl, subst, ◌∙◌, arith}
use Rattle.safl_sim.specs.States.{placed}
use Rattle.safl_sim.specs.Writes.{KeepsOn}
use Rattle.safl_sim.proofs.Registers.{keeps_skip}
use Rattle.safl_sim.proofs.phases.keep_registers.Goals as goal

pub keep_word-requires-clause-registers : goal.keep_word-requires-clause-registers
keep_word-requires-clause-registers c =
    let r = c.requires.registers in
    let m = c.words.invariant.marks in
    let w = c.words.invariant.waiting in
    record {
      few = let a = r.few in omega (arith, a, m);
      room = let a = r.room in omega (arith, a, w);
      states = c.words.invariant.state ∙ r.states;
      within = r.within;
      next = r.next;
      low = r.low;
      once = r.once;
    }

pub keep_word-requires-clause-keeps : goal.keep_word-requires-clause-keeps
keep_word-requires-clause-keeps c = let r = c.requires.keeps in (r.0, r.1, c.words.invariant.keeps r.0 r.1 r.2)

pub words-init : goal.words-init
words-init c = record {
  least = c.next-w.ensures.least;
  most = c.next-w.ensures.most;
  state = refl;
  marks = refl;
  waiting = refl;
  keeps = λ start was w. keeps_skip (c.args.first * 64) c.args.registers.now c.args.values.now c.args.first c.next-w.result start was
      (placed (length c.args.values.now) c.args.registers.now c.args.state.now) c.args.marks.now c.args.waiting.now w c.next-w.ensures.none;
}

pub words-preserved : goal.words-preserved
words-preserved c = record {
  least = (let a = c.next-w-in-words.ensures.least in let b = c.words.invariant.least in omega (arith, a, b));
  most = c.next-w-in-words.ensures.most;
  state = (let a = c.words.invariant.state in let b = c.keep_word.auto.state in omega (arith, a, b));
  marks = c.keep_word.ensures.count.marks ∙ c.words.invariant.marks;
  waiting = c.keep_word.ensures.count.waiting ∙ c.words.invariant.waiting;
  keeps = λ start was w. keeps_skip (c.args.first * 64) c.args.registers.now c.args.values.now (c.words.w + 1) c.next-w-in-words.result start was
      (placed (length c.args.values.now) c.args.registers.now c.keep_word.new.state) c.keep_word.new.marks c.keep_word.new.waiting
      (c.keep_word.ensures.keeps start was (c.words.invariant.keeps start was w)) c.next-w-in-words.ensures.none;
}

pub returns-clause-count : goal.returns-clause-count
returns-clause-count c = record { marks = c.words.invariant.marks; waiting = c.words.invariant.waiting }

pub returns-clause-keeps : goal.returns-clause-keeps
returns-clause-keeps c = λ start was w.
    subst (λ k. KeepsOn (c.args.first * 64) c.args.registers.now c.args.values.now (k * 64) start was
    (placed (length c.args.values.now) c.args.registers.now c.words.state) c.words.marks c.words.waiting)
    (let a = c.words-test.false in let d = c.words.invariant.marks in let e = c.requires.first in let f = c.words.invariant.least in let g = c.words.invariant.most in omega (arith, a, d, e, f, g))
    (c.words.invariant.keeps start was w)
