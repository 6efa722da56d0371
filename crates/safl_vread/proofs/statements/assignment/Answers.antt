use Rattle.safl_vread.proofs.Common.{err_from_is_err_and, length-map}
use Rattle.std.proofs.Common.{ap, sym, ◌∙◌, Some, arith}
use Rattle.safl_verilog.specs.Faults.{is_target}
use Rattle.safl_vparse.specs.Shown.{shown_spot, shown_declaration, shown_declarations, shown_expression}
use Rattle.safl_vread.proofs.FaultsByStatement.{place_within, assigned_twice, operand_unfit, widths_apart, assign_sets}
use Rattle.safl_vread.proofs.statements.assignment.Goals as goal

pub returns-then-not-may_be_assigned-clause-steps : goal.returns-then-not-may_be_assigned-clause-steps
returns-then-not-may_be_assigned-clause-steps c = λ before h.
    let t = c.args.scope.now.text.now in
    ap Some c.fault_at.ensures
    ∙ assigned_twice _ before c.args.drivers.now (shown_spot t c.args.target) (shown_expression t c.args.value.now) c.in_ok-item.item
    c.index-drivers-item.result c.in_ok-item.ensures h c.index-drivers-item.is
    (sym (c.may_be_assigned.ensures t) ∙ c.if-not-may_be_assigned.true)

pub returns-in_err-operands-clause-steps : goal.returns-in_err-operands-clause-steps
returns-in_err-operands-clause-steps c =
    let t = c.args.scope.now.text.now in
    let p = err_from_is_err_and c.from_residual-in_err-operands.result c.from_residual-in_err-operands.ensures.1 in
    rw (p.1, p.2) (λ before h. operand_unfit _ before c.args.drivers.now (shown_spot t c.args.target) (shown_expression t c.args.value.now)
    c.in_ok-item.item c.index-drivers-item.result c.in_ok-item.ensures h c.index-drivers-item.is
    (sym (c.may_be_assigned.ensures t) ∙ c.if-not-may_be_assigned.false) c.in_err-operands.field-0.0 c.in_err-operands.ensures.faults)

pub returns-then-width-item-clause-steps : goal.returns-then-width-item-clause-steps
returns-then-width-item-clause-steps c = λ before h.
    let t = c.args.scope.now.text.now in
    ap Some c.width_fault.ensures
    ∙ widths_apart _ before c.args.drivers.now (shown_spot t c.args.target) (shown_expression t c.args.value.now) c.in_ok-item.item
    c.index-drivers-item.result c.in_ok-item.ensures h c.index-drivers-item.is
    (sym (c.may_be_assigned.ensures t) ∙ c.if-not-may_be_assigned.false) c.expression_width-width.result c.in_ok-operands.ensures.faults c.expression_width-width.ensures.width c.if-width-item.true

pub returns-clause-steps : goal.returns-clause-steps
returns-clause-steps c = λ before h.
    let t = c.args.scope.now.text.now in
    assign_sets _ before c.args.drivers.now (shown_spot t c.args.target) (shown_expression t c.args.value.now) c.in_ok-item.item
    c.index-drivers-item.result c.in_ok-item.ensures h c.index-drivers-item.is
    (sym (c.may_be_assigned.ensures t) ∙ c.if-not-may_be_assigned.false) c.expression_width-width.result c.in-Some.op c.in_ok-operands.operands
    c.in_ok-operands.ensures.faults c.in_ok-operands.ensures.places c.expression_width-width.ensures.width c.if-width-item.false
    (rw c.in-Some.is at c.operation_of-op.ensures.some)

pub returns-clause-within : goal.returns-clause-within
returns-clause-within c =
    let t = c.args.scope.now.text.now in
    let ds = shown_declarations t c.args.scope.now.declarations.now in
    omega (arith, c.requires.full, place_within ds (shown_spot t c.args.target) is_target c.in_ok-item.item c.in_ok-item.ensures, length-map c.args.scope.now.declarations.now (shown_declaration t))
