use Rattle.safl_sim.specs.Cycles.{state_of}
use Rattle.safl_sim.proofs.Cycle.{put_within, put_once, put_long, put_lists, inputs_away, inputs_fit, keeps_put, has_put, cycle_from}
use Rattle.safl_sim.proofs.phases.cycle.Goals as goal

pub put_words-requires : goal.put_words-requires
put_words-requires c = record {
  lists = put_lists c.requires.0 c.args.plan.now c.args.marks.now c.args.waiting.now c.args.state.now c.args.values.now c.requires.1 c.args.words.now c.requires.2;
  long = put_long c.requires.0 c.args.plan.now c.args.marks.now c.args.waiting.now c.args.state.now c.args.values.now c.requires.1 c.args.words.now c.requires.2;
  within = put_within c.requires.0 c.args.plan.now c.args.marks.now c.args.waiting.now c.args.state.now c.args.values.now c.requires.1 c.args.words.now c.requires.2;
  once = put_once c.requires.0 c.args.plan.now c.args.marks.now c.args.waiting.now c.args.state.now c.args.values.now c.requires.1 c.args.words.now c.requires.2;
}

pub proceed-requires : goal.proceed-requires
proceed-requires c =
    let o = c.requires.0 in
    let now = state_of o c.args.plan.now c.args.state.now in
    let away = inputs_away o c.args.plan.now c.args.marks.now c.args.waiting.now c.args.state.now c.args.values.now c.requires.1 c.args.words.now c.requires.2 in
    let fit = inputs_fit o c.args.plan.now c.args.marks.now c.args.waiting.now c.args.state.now c.args.values.now c.requires.1 c.args.words.now
    c.requires.2 c.put_words.new.values c.put_words.ensures.put in
    let goes = c.put_words.ensures.goes o.net o.wires c.args.plan.now.registers.items now away fit in (
      o,
      keeps_put o c.args.plan.now c.args.marks.now c.args.waiting.now c.args.state.now c.args.values.now c.requires.1 c.args.words.now c.requires.2
          c.put_words.new.values c.put_words.new.marks c.put_words.ensures.put c.put_words.ensures.long goes,
    )

pub returns : goal.returns
returns c = λ o k are.
    let now = state_of o c.args.plan.now c.args.state.now in
    let away = inputs_away o c.args.plan.now c.args.marks.now c.args.waiting.now c.args.state.now c.args.values.now k c.args.words.now are in
    let fit = inputs_fit o c.args.plan.now c.args.marks.now c.args.waiting.now c.args.state.now c.args.values.now k c.args.words.now are c.put_words.new.values c.put_words.ensures.put in
    let goes = c.put_words.ensures.goes o.net o.wires c.args.plan.now.registers.items now away fit in
    let keeps = keeps_put o c.args.plan.now c.args.marks.now c.args.waiting.now c.args.state.now c.args.values.now k c.args.words.now are
    c.put_words.new.values c.put_words.new.marks c.put_words.ensures.put c.put_words.ensures.long goes in
    let has = has_put o c.args.plan.now c.args.marks.now c.args.waiting.now c.args.state.now c.args.values.now k c.args.words.now are
    c.put_words.new.values c.put_words.new.marks c.put_words.ensures.put c.put_words.ensures.long goes in
    cycle_from o c.args.plan.now c.args.words.now c.args.state.now c.put_words.new.values c.args.values.now c.proceed.new.marks c.proceed.new.waiting c.proceed.new.state c.proceed.new.values
    (c.proceed.ensures o c.args.words.now keeps has)
