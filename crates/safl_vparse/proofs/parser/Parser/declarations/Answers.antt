use Rattle.safl_vparse.proofs.Common.{err_from_is_err_and, goes_on, sort_codes, stops_here, sym, ◌∙◌}
use Rattle.safl_verilog.specs.Reader.{comes, read_another_decl}
use Rattle.safl_vparse.specs.Shown.{shown_all, shown_declarations}
use Rattle.safl_vparse.proofs.Loops.{another_decl_eats, fails}
use Rattle.safl_vparse.proofs.parser.Parser.declarations.Goals as goal

pub returns : goal.returns
returns c = stops_here (comes sort_codes) read_another_decl another_decl_eats (shown_declarations c.args.self.now.text.now c.list.declarations.items)
    (shown_all c.args.self.now.text.now c.list.rest.now) _ c.list.invariant (sym c.comes_declaration.ensures ∙ c.list-test.false)

pub list-smaller : goal.list-smaller
list-smaller c = another_decl_eats (shown_declarations c.args.self.now.text.now c.list.declarations.items)
    (shown_all c.args.self.now.text.now c.list.rest.now) (shown_all c.args.self.now.text.now c.in_ok-next.after.now)
    (shown_declarations c.args.self.now.text.now c.in_ok-next.next.items) c.in_ok-next.ensures

pub list-preserved : goal.list-preserved
list-preserved c = goes_on (comes sort_codes) read_another_decl another_decl_eats
    (shown_declarations c.args.self.now.text.now c.list.declarations.items) (shown_all c.args.self.now.text.now c.list.rest.now) _ c.list.invariant
    (shown_declarations c.args.self.now.text.now c.in_ok-next.next.items) (shown_all c.args.self.now.text.now c.in_ok-next.after.now)
    (sym c.comes_declaration.ensures ∙ c.list-test.true) c.in_ok-next.ensures

pub returns-in_err-next : goal.returns-in_err-next
returns-in_err-next c =
    let p = err_from_is_err_and c.from_residual.result c.from_residual.ensures.1 in
    rw (p.1, p.2) (fails c.args.self.now.text.now c.in_err-next.field-0.0 (comes sort_codes) read_another_decl another_decl_eats
    (shown_declarations c.args.self.now.text.now c.list.declarations.items) (shown_all c.args.self.now.text.now c.list.rest.now) _
    c.list.invariant (sym c.comes_declaration.ensures ∙ c.list-test.true) c.in_err-next.ensures)
