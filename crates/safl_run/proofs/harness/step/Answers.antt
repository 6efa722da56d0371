use Rattle.std.proofs.Common.{List, map, slice_index, refl, sym, ap, subst, ◌∙◌}
use Rattle.safl_word.specs.Words.{Word}
use Rattle.safl_net.specs.Netlist.{Netlist}
use Rattle.safl_net.specs.Valuations.{Valuation, number_at, signal_word}
use Rattle.safl_sim.specs.Outcomes.{word_at}
use Rattle.safl_sim.specs.Places.{HasWords}
use Rattle.safl_sim.specs.Ticks.{words_of}
use Rattle.safl_sim.specs.Words.{input_words, zero_of, bit_word}
use Rattle.safl_sim.proofs.Giving.{are_inputs, zero_widths}
use Rattle.safl_sim.proofs.Going.{not_one}
use Rattle.safl_run.proofs.Going.{going_more, call_more, inputs_along, tick_fits, tick_words, tick_leads}
use Rattle.safl_run.proofs.harness.step.Goals as goal

pub tick-requires-clause-first : goal.tick-requires-clause-first
tick-requires-clause-first c =
    let n : Netlist = c.args.sim.now.net in
    let k = c.requires.called.1 in
    inputs_along n n _ c.deref.result.now refl (c.deref.ensures.value ∙ k.first) (are_inputs n 1 c.requires.called.0 k.is.made k.is.whole k.arguments)

pub tick-requires-clause-later : goal.tick-requires-clause-later
tick-requires-clause-later c =
    let n : Netlist = c.args.sim.now.net in
    let k = c.requires.called.1 in
    let args : List Word = c.requires.called.0 in
    inputs_along n n _ c.deref-2.result.now refl (c.deref-2.ensures.value ∙ k.is.is_room.later args k.arguments)
    (are_inputs n 0 (map zero_of args) k.is.made k.is.whole (zero_widths args ∙ k.arguments))

pub returns-then-is_on-clause-goes : goal.returns-then-is_on-clause-goes
returns-then-is_on-clause-goes c state args frames k count going =
    let n : Netlist = c.args.sim.now.net in
    let v : Valuation = c.tick.new.sim.values in
    let first = c.deref.ensures.value ∙ k.first in
    let later = c.deref-2.ensures.value ∙ k.is.is_room.later args k.arguments in
    let words = tick_words n args c.deref.result.now c.deref-2.result.now c.args.cycle c.args.sim.now c.tick.new.sim refl first later c.tick.ensures in
    record {
      call =
          call_more n args k.is.whole k.arguments state (slice_index c.args.sim.now.state) frames v going.call going.after
          (tick_fits n args c.deref.result.now c.deref-2.result.now c.args.cycle c.args.sim.now c.tick.new.sim refl first later c.tick.ensures)
          (subst (λ x. HasWords n v (words_of x (input_words n.signals (bit_word 1) args) (input_words n.signals (bit_word 0) (map zero_of args)))) (sym count) words);
      cycle = count;
      done = ap (number_at v) (sym k.is.shows_done) ∙ c.if-is_on.ensures.on.0 refl;
      result = c.value.ensures ∙ ap (λ (m : Netlist). signal_word m v c.args.harness.now.result.0) c.tick.ensures.net ∙ ap (word_at n v) k.is.shows_result;
      leads = tick_leads n args c.deref.result.now c.deref-2.result.now c.args.cycle c.args.sim.now c.tick.new.sim refl first later c.tick.ensures;
    }

pub returns-else-is_on-clause-goes : goal.returns-else-is_on-clause-goes
returns-else-is_on-clause-goes c state args frames k count going =
    let n : Netlist = c.args.sim.now.net in
    let v : Valuation = c.tick.new.sim.values in
    let first = c.deref.ensures.value ∙ k.first in
    let later = c.deref-2.ensures.value ∙ k.is.is_room.later args k.arguments in
    let words = tick_words n args c.deref.result.now c.deref-2.result.now c.args.cycle c.args.sim.now c.tick.new.sim refl first later c.tick.ensures in
    going_more n args k.is.whole k.arguments state (slice_index c.args.sim.now.state) (slice_index c.tick.new.sim.state) frames v going
    (tick_fits n args c.deref.result.now c.deref-2.result.now c.args.cycle c.args.sim.now c.tick.new.sim refl first later c.tick.ensures)
    (subst (λ x. HasWords n v (words_of x (input_words n.signals (bit_word 1) args) (input_words n.signals (bit_word 0) (map zero_of args)))) (sym count) words)
    (ap (number_at v) (sym k.is.shows_done) ∙ not_one _ c.if-is_on.ensures.off (λ e. let z = c.if-is_on.ensures.on.1 e in cc))
    (tick_leads n args c.deref.result.now c.deref-2.result.now c.args.cycle c.args.sim.now c.tick.new.sim refl first later c.tick.ensures)
