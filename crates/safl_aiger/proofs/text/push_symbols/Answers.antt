use Rattle.std.proofs.Common.{◌≡◌, ◌+◌, ◌++◌, drop, Some, slice_get, ap, sym, ◌∙◌}
use Rattle.safl_aiger.specs.Circuits.{names_of}
use Rattle.safl_aiger.specs.Texts.{joined_lines, symbol_row, symbols_text}
use Rattle.safl_aiger.proofs.Joining.{joined_step, symbols_step, names_at}
use Rattle.safl_aiger.proofs.text.push_symbols.Goals as goal

pub loop-i-preserved : goal.loop-i-preserved
loop-i-preserved c =
    let i = c.loop-i.i in
    let names = names_of c.args.names.now in
    let at : slice_get names i ≡ Some c.deref.result.now = names_at c.args.names.now i c.index-names-i.result c.loop-i-test.true ∙ ap (λ x. Some x) (sym c.deref.ensures.value) in
    joined_step c.loop-i.out.items c.push_symbol.new.out.items (c.args.out.now.items ++ joined_lines (symbols_text c.args.letter 0 names))
    (symbol_row c.args.letter i c.deref.result.now) (symbols_text c.args.letter (i + 1) (drop (i + 1) names)) c.in_ok-push_symbol.ensures
    (ap (λ l. c.loop-i.out.items ++ joined_lines l) (sym (symbols_step c.args.letter i names c.deref.result.now at)) ∙ c.loop-i.invariant)
