use Rattle.std.proofs.Common.{◌+◌, ◌*◌, refl, ◌∙◌, arith}
use Rattle.safl_sim.proofs.Registers.{shows_start, shows_skip, none_waits, all_shown}
use Rattle.safl_sim.proofs.Updates.{lists_same}
use Rattle.safl_sim.proofs.phases.show_registers.Goals as goal

pub words-init : goal.words-init
words-init c = record {
  most = c.next-w.ensures.most;
  wide = refl;
  long = refl;
  low = c.requires.registers.low;
  room = refl;
  shows = λ now at w. shows_skip c.args.plan.now.registers.items now 0 c.next-w.result c.args.values.now c.args.values.now c.args.waiting.now
      (shows_start c.args.plan.now.registers.items now c.args.values.now c.args.waiting.now w) c.next-w.ensures.none;
  goes = λ n ws now away at r are state fits h. (fits, h);
}

pub show_word-requires-clause-lists : goal.show_word-requires-clause-lists
show_word-requires-clause-lists c = lists_same c.args.plan.now.starts.items c.args.plan.now.readers.items _ _ _ _ c.words.invariant.wide c.words.invariant.long c.requires.lists

pub show_word-requires-clause-registers : goal.show_word-requires-clause-registers
show_word-requires-clause-registers c = record {
  within = λ k r e. (let a = c.requires.registers.within k r e in let b = c.words.invariant.wide in omega (arith, a, b));
  once = c.requires.registers.once;
  low = c.words.invariant.low;
}

pub show_word-requires-clause-shows : goal.show_word-requires-clause-shows
show_word-requires-clause-shows c = let r = c.requires.waits in (r.0, c.args.values.now, r.1, c.words.invariant.shows r.0 r.1 r.2)

pub words-preserved : goal.words-preserved
words-preserved c = record {
  most = c.next-w-in-words.ensures.most;
  wide = (let r = c.requires.waits in (c.show_word.ensures.shows r.0 c.args.values.now r.1 (c.words.invariant.shows r.0 r.1 r.2)).long);
  long = c.show_word.ensures.count.marks ∙ c.words.invariant.long;
  low = c.show_word.ensures.low;
  room = c.show_word.ensures.count.waiting ∙ c.words.invariant.room;
  shows = λ now at w. shows_skip c.args.plan.now.registers.items now (c.words.w + 1) c.next-w-in-words.result c.args.values.now c.show_word.new.values c.show_word.new.waiting
      (c.show_word.ensures.shows now c.args.values.now at (c.words.invariant.shows now at w)) c.next-w-in-words.ensures.none;
  goes = λ n ws now away at r are state fits h. let w = c.words.invariant.goes n ws now away at r are state fits h in c.show_word.ensures.goes n ws now away at r are state w.0 w.1;
}

pub returns-clause-count : goal.returns-clause-count
returns-clause-count c = record { marks = c.words.invariant.long; waiting = c.words.invariant.room }

pub returns-clause-none : goal.returns-clause-none
returns-clause-none c = let r = c.requires.waits in none_waits c.args.plan.now.registers.items r.0 (c.words.w * 64) c.args.values.now c.words.values
    c.words.waiting (c.words.invariant.shows r.0 r.1 r.2)
    (let a = c.words-test.false in let b = r.2.room in let d = c.words.invariant.most in omega (arith, a, b, d))

pub returns-clause-shown : goal.returns-clause-shown
returns-clause-shown c = λ now at r. all_shown c.args.plan.now.registers.items now (c.words.w * 64) c.args.values.now c.words.values c.words.waiting (c.words.invariant.shows now at r)
    (let a = c.words-test.false in let b = r.room in let d = c.words.invariant.most in omega (arith, a, b, d))
