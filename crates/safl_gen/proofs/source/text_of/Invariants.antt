use Rattle.std.proofs.Common.{◌≡◌, ◌*◌, map}
use Rattle.std.specs.List.{concat, range_with_len}
use Rattle.safl_gen.specs.Draws.{nth_number, draw}
use Rattle.safl_gen.specs.Source.{drawn_line}
use Rattle.safl_gen.proofs.source.text_of.Given as goal

abbrev pub invariant-loop-i : goal.invariant-loop-i
invariant-loop-i l = record {
  drawn : l.draws.number ≡ nth_number l.seed (3 * l.i);
  written : l.text.items ≡ concat (map (drawn_line (draw l.seed)) (range_with_len 0 l.i));
}
