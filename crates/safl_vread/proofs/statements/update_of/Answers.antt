use Rattle.safl_vread.proofs.Common.{ap, literal_word, shown_spot, sym, ◌∙◌}
use Rattle.safl_vread.proofs.FaultsByStatement.{update_sets}
use Rattle.safl_vread.proofs.statements.update_of.Goals as goal

pub returns-clause-steps : goal.returns-clause-steps
returns-clause-steps c = λ before h.
    let t = c.args.scope.now.text.now in
    update_sets _ before (shown_spot t c.args.update.now.clock) (shown_spot t c.args.update.now.reset) (shown_spot t c.args.update.now.target)
    (shown_spot t c.args.update.now.initial) (shown_spot t c.args.update.now.second) (shown_spot t c.args.update.now.source) c.in_ok-item.item
    c.in_ok-source.source c.in-Some.initial
    (c.in_ok-item.ensures.names before h) c.in_ok-source.ensures (sym c.in-Some.is ∙ c.literal.ensures ∙ ap literal_word c.bytes_of.ensures)
    (sym c.width.ensures.value ∙ c.if-width-item.false) c.if-source-item.false
