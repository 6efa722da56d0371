use Rattle.safl_vparse.proofs.Common.{[], err_from_is_err_and, goes_on, stops_here, sym, ◌∙◌, ◌∷◌}
use Rattle.safl_verilog.specs.Reader.{comes, read_another_stmt}
use Rattle.safl_vparse.specs.Shown.{shown_all, shown_statements}
use Rattle.safl_vparse.proofs.Loops.{another_stmt_eats, fails}
use Rattle.safl_vparse.proofs.parser.Parser.statements.Goals as goal

pub returns : goal.returns
returns c = stops_here (comes (10 ∷ 11 ∷ [])) read_another_stmt another_stmt_eats (shown_statements c.args.self.now.text.now c.list.statements.items)
    (shown_all c.args.self.now.text.now c.list.rest.now) _ c.list.invariant (sym c.comes_statement.ensures ∙ c.list-test.false)

pub list-smaller : goal.list-smaller
list-smaller c = another_stmt_eats (shown_statements c.args.self.now.text.now c.list.statements.items)
    (shown_all c.args.self.now.text.now c.list.rest.now) (shown_all c.args.self.now.text.now c.in_ok-next.after.now)
    (shown_statements c.args.self.now.text.now c.in_ok-next.next.items) c.in_ok-next.ensures

pub list-preserved : goal.list-preserved
list-preserved c = goes_on (comes (10 ∷ 11 ∷ [])) read_another_stmt another_stmt_eats
    (shown_statements c.args.self.now.text.now c.list.statements.items) (shown_all c.args.self.now.text.now c.list.rest.now) _ c.list.invariant
    (shown_statements c.args.self.now.text.now c.in_ok-next.next.items) (shown_all c.args.self.now.text.now c.in_ok-next.after.now)
    (sym c.comes_statement.ensures ∙ c.list-test.true) c.in_ok-next.ensures

pub returns-in_err-next : goal.returns-in_err-next
returns-in_err-next c =
    let p = err_from_is_err_and c.from_residual.result c.from_residual.ensures.1 in
    rw (p.1, p.2) (fails c.args.self.now.text.now c.in_err-next.field-0.0 (comes (10 ∷ 11 ∷ [])) read_another_stmt another_stmt_eats
    (shown_statements c.args.self.now.text.now c.list.statements.items) (shown_all c.args.self.now.text.now c.list.rest.now) _ c.list.invariant
    (sym c.comes_statement.ensures ∙ c.list-test.true) c.in_err-next.ensures)
