use Rattle.safl_aiger.proofs.Common.{[], ap, base, ◌++◌, ◌+◌, ◌∙◌, ◌∷◌}
use Rattle.safl_aiger.specs.Texts.{joined_lines, header_line, input_text, latch_text, output_text, and_text, symbols_text}
use Rattle.safl_aiger.proofs.Joining.{sections}
use Rattle.safl_aiger.proofs.Rows.{section_rows}
use Rattle.safl_aiger.proofs.text.aig_text.Goals as goal

pub returns : goal.returns
returns c =
    let a = c.args.a.now in
    let i = c.inputs-inputs.ensures.count in
    let l = c.latches-latches.ensures in
    sections (header_line a ∷ []) (input_text 1 a.inputs) (latch_text (1 + a.inputs) a.nexts) (output_text a.outputs) (and_text (base a) a.ands)
    (symbols_text 105 0 a.input_names) (symbols_text 108 0 a.latch_names) (symbols_text 111 0 a.output_names)
    c.new-out.result.items c.push_header.new.out.items c.push_inputs.new.out.items c.push_latches.new.out.items c.push_outputs.new.out.items
    c.push_ands.new.out.items c.push_symbols.new.out.items c.push_symbols-2.new.out.items c.push_symbols-3.new.out.items
    c.new-out.ensures.items c.in_ok-push_header.ensures
    (c.in_ok-push_inputs.ensures ∙ ap (λ n. c.push_header.new.out.items ++ joined_lines (input_text 1 n)) i)
    (c.in_ok-push_latches.ensures ∙ (λ k. c.push_inputs.new.out.items ++ joined_lines (latch_text (1 + i k) (c.next_literals.ensures k))))
    (c.in_ok-push_outputs.ensures ∙ ap (λ x. c.push_latches.new.out.items ++ joined_lines (output_text x)) c.output_literals.ensures)
    (c.in_ok-push_ands.ensures ∙ (λ k. c.push_outputs.new.out.items ++ joined_lines (and_text (1 + i k + l k) (c.operands.ensures k))))
    (c.in_ok-push_symbols.ensures ∙ ap (λ x. c.push_ands.new.out.items ++ joined_lines (symbols_text 105 0 x)) c.input_names.ensures)
    (c.in_ok-push_symbols-2.ensures ∙ ap (λ x. c.push_symbols.new.out.items ++ joined_lines (symbols_text 108 0 x)) c.latch_names.ensures)
    (c.in_ok-push_symbols-3.ensures ∙ ap (λ x. c.push_symbols-2.new.out.items ++ joined_lines (symbols_text 111 0 x)) c.output_names.ensures)
    ∙ ap (λ l. joined_lines (header_line a ∷ l)) (section_rows a)
