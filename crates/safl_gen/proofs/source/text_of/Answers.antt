use Rattle.std.proofs.Common.{◌≡◌, ◌≤◌, ◌-◌, [], List, ℕ, ◌++◌, length, map, sym, ap, subst, ◌∙◌, arith}
use Rattle.safl_gen.specs.Draws.{draw}
use Rattle.std.specs.List.{concat, range_with_len}
use Rattle.safl_word.proofs.Lists.{concat_more}
use Rattle.safl_gen.specs.Source.{drawn_line, main_line, source_text}
use Rattle.safl_gen.proofs.DrawsInOrder.{draws_first, draws_more, line_drawn}
use Rattle.safl_gen.proofs.Lengths.{source_short}
use Rattle.safl_gen.proofs.source.text_of.Goals as goal

pub loop-i-init : goal.loop-i-init
loop-i-init c = record {
  drawn = draws_first c.args.seed _ c.new-draws.ensures;
  written = c.new-text.ensures.items;
}

pub loop-i-preserved : goal.loop-i-preserved
loop-i-preserved c =
    let seed = c.args.seed in
    let i = c.loop-i.i in
    let at = c.loop-i.invariant.drawn in
    let made = c.draw_function-drawn in
    record {
      drawn = draws_more seed i _ _ at made.ensures.number;
      written = concat_more (drawn_line (draw seed)) 0 i i [] c.loop-i.text.items c.push_function.new.out.items (omega arith) c.loop-i.invariant.written
          (c.in_ok-push_function.ensures ∙ ap (λ (l : List ℕ). c.loop-i.text.items ++ l)
          (line_drawn seed i _ _ _ _ _ at made.ensures.number made.ensures.form made.ensures.constant made.ensures.first));
    }

pub returns : goal.returns
returns c =
    let seed = c.args.seed in
    let count = c.args.count in
    let end : c.loop-i.i ≡ count = omega arith in
    let lines = c.loop-i.invariant.written ∙ ap (λ (n : ℕ). concat (map (drawn_line (draw seed)) (range_with_len 0 n))) end in
    let made : c.push_main.new.out.items ≡ source_text (draw seed) count = c.in_ok-push_main.ensures ∙ ap (λ (l : List ℕ). l ++ main_line (count - 1)) lines in
    record {
      source = made;
      short = subst (λ (l : List ℕ). length l ≤ 1048576) (sym made) (source_short (draw seed) count c.requires.most);
    }
