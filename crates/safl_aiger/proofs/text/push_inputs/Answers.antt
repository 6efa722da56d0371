use Rattle.std.proofs.Common.{◌+◌, ◌-◌, ◌*◌, ◌++◌, ◌∷◌, [], ap, sym, ◌∙◌}
use Rattle.safl_aiger.specs.Texts.{joined_lines, numbers_line, input_text}
use Rattle.safl_aiger.proofs.Joining.{joined_step, inputs_step}
use Rattle.safl_aiger.proofs.text.push_inputs.Goals as goal

pub loop-i-preserved : goal.loop-i-preserved
loop-i-preserved c =
    let i = c.loop-i.i in
    joined_step c.loop-i.out.items c.push_numbers.new.out.items (c.args.out.now.items ++ joined_lines (input_text 1 c.args.count))
    (numbers_line (2 * (1 + i)) [] ∷ []) (input_text (1 + (i + 1)) (c.args.count - (i + 1))) c.in_ok-push_numbers.ensures
    (ap (λ l. c.loop-i.out.items ++ joined_lines l) (sym (inputs_step i c.args.count c.loop-i-test.true)) ∙ c.loop-i.invariant)
