use Rattle.safl_check.proofs.Common.{err_from_is_err_and, shown_definitions}
use Rattle.safl_check.proofs.OutcomeByParts.{refused_functions, refused_limits, refused_shallow}
use Rattle.safl_check.proofs.program.check_defs.Goals as goal

pub returns-in_err-heads-clause-refused : goal.returns-in_err-heads-clause-refused
returns-in_err-heads-clause-refused c =
    let p = err_from_is_err_and c.from_residual.result c.from_residual.ensures.1 in
    rw (p.1, p.2) (refused_limits (shown_definitions c.args.defs.now) c.in_err-heads.field-0.0 c.in_err-heads.ensures.refused)

pub returns-in_err-functions-clause-refused : goal.returns-in_err-functions-clause-refused
returns-in_err-functions-clause-refused c =
    let p = err_from_is_err_and c.from_residual-in_err-functions.result c.from_residual-in_err-functions.ensures.1 in
    let shallow = c.are_shallow.ensures.0 c.if-not-are_shallow.false in
    rw (p.1, p.2) (refused_shallow (shown_definitions c.args.defs.now) c.in_err-functions.field-0.0 shallow
    (refused_functions (shown_definitions c.args.defs.now) c.in_err-functions.field-0.0 c.in_ok-heads.ensures.within c.in_err-functions.ensures.says))
