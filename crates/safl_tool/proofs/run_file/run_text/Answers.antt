use Rattle.safl_tool.proofs.Common.{err_from_is_err_and, map, string_bytes}
use Rattle.safl_tool.proofs.Ran.{net_refuses, arguments_refuse}
use Rattle.safl_tool.proofs.run_file.run_text.Goals as goal

pub returns-in_err-ordered-clause-refused : goal.returns-in_err-ordered-clause-refused
returns-in_err-ordered-clause-refused c =
    let p = err_from_is_err_and c.from_residual.result c.from_residual.ensures.1 in
    rw (p.1, p.2) (net_refuses c.args.name.now c.args.text.now (map string_bytes c.args.args.now) c.in_err-ordered.field-0.0 c.in_err-ordered.ensures.refused)

pub returns-in_err-run_net-clause-refused : goal.returns-in_err-run_net-clause-refused
returns-in_err-run_net-clause-refused c =
    let p = err_from_is_err_and c.from_residual-in_err-run_net.result c.from_residual-in_err-run_net.ensures.1 in
    rw (p.1, p.2)
    (arguments_refuse c.args.name.now c.args.text.now (map string_bytes c.args.args.now) c.in_ok-ordered.ordered.net c.in_err-run_net.field-0.0
    c.in_ok-ordered.ensures.runnable c.in_err-run_net.ensures.refused)
