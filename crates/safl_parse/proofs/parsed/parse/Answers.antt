use Rattle.std.proofs.lemmas.Result.{err_from_is_err_and}
use Rattle.safl_parse.proofs.Sources.{faulty}
use Rattle.safl_parse.proofs.parsed.parse.Goals as goal

pub returns-in_err-program-clause-refused : goal.returns-in_err-program-clause-refused
returns-in_err-program-clause-refused c =
    let p = err_from_is_err_and c.from_residual.result c.from_residual.ensures.1 in
    rw (p.1, p.2) c.in_err-program.ensures.refused

pub returns-in_err-program-clause-spelled : goal.returns-in_err-program-clause-spelled
returns-in_err-program-clause-spelled c q s =
    let p = err_from_is_err_and c.from_residual.result c.from_residual.ensures.1 in
    rw (p.1, p.2) (c.in_err-program.ensures.spelled q s)

pub returns-in_err-program-clause-faulty : goal.returns-in_err-program-clause-faulty
returns-in_err-program-clause-faulty c f s =
    let p = err_from_is_err_and c.from_residual.result c.from_residual.ensures.1 in
    rw (p.1, p.2) (faulty f c.in_err-program.field-0.0 (c.in_err-program.ensures.faulty f s))

pub returns-in-Ok-clause-spelled : goal.returns-in-Ok-clause-spelled
returns-in-Ok-clause-spelled c q s = c.in_ok-program.ensures.spelled q s

pub returns-in-Ok-clause-faulty : goal.returns-in-Ok-clause-faulty
returns-in-Ok-clause-faulty c f s = c.in_ok-program.ensures.faulty f s
