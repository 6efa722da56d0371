-- A harness keeps what its net needs, and its words are those of a call.
use Rattle.std.proofs.Common.{◌≡◌, ◌+◌, List, ◌∷◌, ◌++◌, length, take, drop, Some, is_some, slice_get, sym, ap, ◌∙◌, arith, codes}
use Rattle.std.specs.Vec.{with_items}
use Rattle.std.proofs.lemmas.List.{with_items_is, length-take-le, length-drop, length-append}
use Rattle.safl_word.specs.Words.{Word}
use Rattle.safl_word.proofs.Lists.{get_seam}
use Rattle.safl_net.specs.Netlist.{Netlist, output_place, width_of}
use Rattle.safl_net.specs.Making.{found}
use Rattle.safl_net.specs.Rules.{IsNetlist}
use Rattle.safl_net.specs.Whole.{IsWhole}
use Rattle.safl_net.specs.Arguments.{AreArguments}
use Rattle.safl_sim.specs.Words.{input_words, bit_word}
use Rattle.safl_sim.proofs.Names.{found_output, output_known}
use Rattle.safl_run.specs.declared.harness.Harness.{Harness}
use Rattle.safl_run.specs.Rooms.{IsRoom}
use Rattle.safl_run.specs.Runners.{IsHarness}

-- what a new harness keeps
pub is_harness : (n : Netlist) (h : Harness) → IsWhole n → IsNetlist n → IsRoom n h.room → Some h.done.0 ≡ found n (codes "done") → Some h.result.0 ≡ found n (codes "result") → IsHarness n h
is_harness n h whole made is_room d r =
    let at_done : Some h.done.0 ≡ output_place n.outputs (codes "done") = d ∙ found_output n (codes "done") made (ap is_some whole.done.at) in
    let at_result : Some h.result.0 ≡ output_place n.outputs (codes "result") = r ∙ found_output n (codes "result") made whole.result in
    let same : Some whole.done.signal ≡ Some h.done.0 = sym whole.done.at ∙ sym at_done in
    record {
      made = made;
      whole = whole;
      is_room = is_room;
      shows_done = at_done;
      done_known = output_known n (codes "done") h.done.0 made at_done;
      done_bit = let q : whole.done.signal ≡ h.done.0 = cc in ap (width_of n) (sym q) ∙ whole.done.bit;
      shows_result = at_result;
      result_known = output_known n (codes "result") h.result.0 made at_result;
    }

-- the words of a call, with the arguments put round the word 1
module _ (n : Netlist) (h : Harness) (kept : IsHarness n h) (args : List Word) (are : AreArguments n args) (words : List Word)
    (put : words ≡ take h.room.start args ++ bit_word 1 ∷ drop h.room.start args) where
  put_long : length words ≡ length args + 1
  put_long =
      let within = kept.is_room.within args are in
      let a = ap length put ∙ length-append (take h.room.start args) (bit_word 1 ∷ drop h.room.start args) in
      let b = length-take-le h.room.start args within in
      let d = length-drop h.room.start args in
      omega (arith, within, a, b, d)

  held : (with_items h.room.first words).items ≡ words
  held =
      let a = put_long in
      let b = kept.is_room.long args are in
      let d = h.room.first.ok.0 in
      with_items_is h.room.first words (omega (arith, a, b, d))

  pub first_is : (with_items h.room.first words).items ≡ input_words n.signals (bit_word 1) args
  first_is = held ∙ put ∙ sym (kept.is_room.words args are)

  room_again : IsRoom n (record { first = with_items h.room.first words; later = h.room.later; start = h.room.start })
  room_again = record {
    one =
        ap (λ l. slice_get l h.room.start) (held ∙ put)
        ∙ get_seam (take h.room.start args) (bit_word 1) (drop h.room.start args) h.room.start (length-take-le h.room.start args (kept.is_room.within args are));
    within = kept.is_room.within;
    long = λ others o.
        let a = ap length held ∙ put_long in
        let b = kept.is_room.long args are in
        let d = kept.is_room.long others o in
        omega (arith, a, b, d);
    words = kept.is_room.words;
    later = kept.is_room.later;
  }

  pub kept_on : IsHarness n (record { room = record { first = with_items h.room.first words; later = h.room.later; start = h.room.start }; done = h.done; result = h.result })
  kept_on = record {
    made = kept.made;
    whole = kept.whole;
    is_room = room_again;
    shows_done = kept.shows_done;
    done_known = kept.done_known;
    done_bit = kept.done_bit;
    shows_result = kept.shows_result;
    result_known = kept.result_known;
  }
