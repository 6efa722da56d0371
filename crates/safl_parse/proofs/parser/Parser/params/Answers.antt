use Rattle.safl_parse.proofs.Common.{comes, err_from_is_err_and, goes_on, shown_parameters, stops_here, sym, terminals, ◌∙◌}
use Rattle.safl_tree.specs.Reader.{comma, read_another_param}
use Rattle.safl_parse.proofs.Loops.{another_param_eats, fails}
use Rattle.safl_parse.proofs.parser.Parser.params.Goals as goal

pub returns : goal.returns
returns c = stops_here (comes comma) read_another_param another_param_eats (shown_parameters c.list.params.items)
    (terminals c.args.self.now.text.now c.list.rest.now) _ c.list.invariant (sym c.comes-in-list.ensures ∙ c.list-test.false)

pub list-smaller : goal.list-smaller
list-smaller c = another_param_eats (shown_parameters c.list.params.items) (terminals c.args.self.now.text.now c.list.rest.now)
    (terminals c.args.self.now.text.now c.in_ok-next.after.now) (shown_parameters c.in_ok-next.next.items) c.in_ok-next.ensures

pub list-preserved : goal.list-preserved
list-preserved c = goes_on (comes comma) read_another_param another_param_eats (shown_parameters c.list.params.items)
    (terminals c.args.self.now.text.now c.list.rest.now) _ c.list.invariant (shown_parameters c.in_ok-next.next.items)
    (terminals c.args.self.now.text.now c.in_ok-next.after.now) (sym c.comes-in-list.ensures ∙ c.list-test.true) c.in_ok-next.ensures

pub returns-in_err-next : goal.returns-in_err-next
returns-in_err-next c =
    let p = err_from_is_err_and c.from_residual-in_err-next.result c.from_residual-in_err-next.ensures.1 in
    rw (p.1, p.2) (fails c.args.self.now.text.now c.in_err-next.field-0.0 (comes comma) read_another_param another_param_eats
    (shown_parameters c.list.params.items) (terminals c.args.self.now.text.now c.list.rest.now) _ c.list.invariant
    (sym c.comes-in-list.ensures ∙ c.list-test.true) c.in_err-next.ensures)
