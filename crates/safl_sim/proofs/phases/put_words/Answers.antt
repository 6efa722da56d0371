use Rattle.std.proofs.Common.{ℕ, ◌+◌, ◌<◌, ◌^◌, List, length, set, sym, subst, ◌∙◌, arith}
use Rattle.safl_word.proofs.Lists.{get_read}
use Rattle.safl_sim.specs.Writes.{HasPut}
use Rattle.safl_sim.proofs.Written.{put_step}
use Rattle.safl_sim.proofs.Updates.{goes_step, lists_same}
use Rattle.safl_sim.proofs.phases.put_words.Goals as goal

pub give-requires-clause-lists : goal.give-requires-clause-lists
give-requires-clause-lists c = lists_same c.args.plan.now.starts.items c.args.plan.now.readers.items _ _ _ _ c.words.invariant.put.long c.words.invariant.long c.requires.lists

pub give-requires-clause-within : goal.give-requires-clause-within
give-requires-clause-within c =
    let places = c.args.plan.now.inputs.items in
    let i = c.words.i in
    let s = c.index.result.now in
    let inside : i < length places = (let a = c.requires.long in let b = c.words-test.true in omega (arith, a, b)) in
    let a = c.requires.within i s (get_read places i s inside c.index.ensures) in
    let b = c.words.invariant.put.long in
    omega (arith, a, b)

pub words-preserved : goal.words-preserved
words-preserved c =
    let p = c.args.plan.now in
    let places = p.inputs.items in
    let i = c.words.i in
    let s = c.index.result.now in
    let inside : i < length places = (let a = c.requires.long in let b = c.words-test.true in omega (arith, a, b)) in
    let here = get_read places i s inside c.index.ensures in
    let word = get_read c.args.words.now i c.index-words-i.result c.words-test.true c.index-words-i.is in
    record {
      put = subst (λ (l : List ℕ). HasPut places c.args.words.now (i + 1) c.args.values.now l) (sym c.give.ensures.is)
          (subst (λ (x : ℕ). HasPut places c.args.words.now (i + 1) c.args.values.now (set c.words.values s.0 x)) (sym c.bits.ensures.value)
          (put_step places c.args.words.now c.args.values.now c.words.values i s c.index-words-i.result c.words.invariant.put here word
          c.bits.ensures.word (c.requires.within i s here) c.requires.once));
      long = c.give.ensures.long ∙ c.words.invariant.long;
      goes = λ n ws regs held away fit. goes_step n ws p.steps.items regs held p.starts.items p.readers.items s.0 _ c.args.values.now c.words.values
          c.give.new.values c.args.marks.now c.words.marks c.give.new.marks (c.words.invariant.goes n ws regs held away fit) (away i s here)
          (let a = c.requires.within i s here in let b = c.words.invariant.put.long in omega (arith, a, b))
          (λ state g at. subst (λ x. x < 2 ^ g.width) (sym c.bits.ensures.value) (fit i s c.index-words-i.result g here word at)) c.give.ensures;
    }

pub returns-clause-put : goal.returns-clause-put
returns-clause-put c =
    subst (λ k. HasPut c.args.plan.now.inputs.items c.args.words.now k c.args.values.now c.words.values)
    (let a = c.words-test.false in let b = c.words.auto.i-end in let d = c.requires.long in omega (arith, a, b, d))
    c.words.invariant.put
