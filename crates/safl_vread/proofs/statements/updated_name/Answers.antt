use Rattle.std.proofs.Common.{ap, sym, ◌∙◌, bytes_eq, Some}
use Rattle.safl_verilog.specs.Faults.{is_clock, is_reset}
use Rattle.safl_vparse.specs.Shown.{shown_spot}
use Rattle.safl_vread.proofs.FaultsByStatement.{names_register, names_twice}
use Rattle.safl_vread.proofs.statements.updated_name.Goals as goal

pub returns-then-is_open-clause-names : goal.returns-then-is_open-clause-names
returns-then-is_open-clause-names c = λ before h.
    let t = c.args.scope.now.text.now in
    names_register _ before c.args.drivers.now (shown_spot t c.args.update.now.clock) (shown_spot t c.args.update.now.reset)
    (shown_spot t c.args.update.now.target) (shown_spot t c.args.update.now.second) c.in_ok-item.item c.index-drivers-item.result
    (c.if-not-is_clock.ensures ∙ ap is_clock c.bytes_of.ensures) (c.if-not-is_reset.ensures ∙ ap is_reset c.bytes_of-2.ensures) c.in_ok-item.ensures
    (c.if-not-same_bytes.ensures ∙ ap (λ w. bytes_eq w c.bytes_of-4.result.now) c.bytes_of-3.ensures ∙ ap (bytes_eq (shown_spot t c.args.update.now.second).bytes) c.bytes_of-4.ensures)
    h c.index-drivers-item.is (sym c.is_open.ensures ∙ c.if-is_open.true)

pub returns-else-is_open-clause-names : goal.returns-else-is_open-clause-names
returns-else-is_open-clause-names c = λ before h.
    let t = c.args.scope.now.text.now in
    ap Some c.fault_at-else-is_open.ensures ∙
    names_twice _ before c.args.drivers.now (shown_spot t c.args.update.now.clock) (shown_spot t c.args.update.now.reset)
    (shown_spot t c.args.update.now.target) (shown_spot t c.args.update.now.second) c.in_ok-item.item c.index-drivers-item.result
    (c.if-not-is_clock.ensures ∙ ap is_clock c.bytes_of.ensures) (c.if-not-is_reset.ensures ∙ ap is_reset c.bytes_of-2.ensures) c.in_ok-item.ensures
    (c.if-not-same_bytes.ensures ∙ ap (λ w. bytes_eq w c.bytes_of-4.result.now) c.bytes_of-3.ensures ∙ ap (bytes_eq (shown_spot t c.args.update.now.second).bytes) c.bytes_of-4.ensures)
    h c.index-drivers-item.is (sym c.is_open.ensures ∙ c.if-is_open.false)
