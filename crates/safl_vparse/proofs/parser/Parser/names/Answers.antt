use Rattle.safl_vparse.proofs.Common.{[], err_from_is_err_and, goes_on, stops_here, sym, ◌∙◌, ◌∷◌}
use Rattle.safl_verilog.specs.Reader.{comes, read_another_id}
use Rattle.safl_vparse.specs.Shown.{shown_all, shown_spots}
use Rattle.safl_vparse.proofs.Loops.{another_id_eats, fails}
use Rattle.safl_vparse.proofs.parser.Parser.names.Goals as goal

pub returns : goal.returns
returns c = stops_here (comes (22 ∷ [])) read_another_id another_id_eats (shown_spots c.args.self.now.text.now c.list.names.items)
    (shown_all c.args.self.now.text.now c.list.rest.now) _ c.list.invariant (sym c.comes.ensures ∙ c.list-test.false)

pub list-smaller : goal.list-smaller
list-smaller c = another_id_eats (shown_spots c.args.self.now.text.now c.list.names.items) (shown_all c.args.self.now.text.now c.list.rest.now)
    (shown_all c.args.self.now.text.now c.in_ok-next.after.now) (shown_spots c.args.self.now.text.now c.in_ok-next.next.items) c.in_ok-next.ensures

pub list-preserved : goal.list-preserved
list-preserved c = goes_on (comes (22 ∷ [])) read_another_id another_id_eats (shown_spots c.args.self.now.text.now c.list.names.items)
    (shown_all c.args.self.now.text.now c.list.rest.now) _ c.list.invariant (shown_spots c.args.self.now.text.now c.in_ok-next.next.items)
    (shown_all c.args.self.now.text.now c.in_ok-next.after.now) (sym c.comes.ensures ∙ c.list-test.true) c.in_ok-next.ensures

pub returns-in_err-next : goal.returns-in_err-next
returns-in_err-next c =
    let p = err_from_is_err_and c.from_residual-in_err-next.result c.from_residual-in_err-next.ensures.1 in
    rw (p.1, p.2) (fails c.args.self.now.text.now c.in_err-next.field-0.0 (comes (22 ∷ [])) read_another_id another_id_eats
    (shown_spots c.args.self.now.text.now c.list.names.items) (shown_all c.args.self.now.text.now c.list.rest.now) _ c.list.invariant
    (sym c.comes.ensures ∙ c.list-test.true) c.in_err-next.ensures)
