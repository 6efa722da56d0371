use Rattle.std.proofs.Common.{◌+◌, length, drop, ap, arith}
use Rattle.safl_aiger.proofs.Cutting.{count_fields, fields_some}
use Rattle.safl_aiger.proofs.lines.one_number.Goals as goal

pub returns-then-space-line-clause-none : goal.returns-then-space-line-clause-none
returns-then-space-line-clause-none c = λ e h.
    let f = ap length (c.space.ensures.some c.if-space-line.true) in
    let k = count_fields c.args.line.now 1 h in
    let s = fields_some (drop (c.space.result + 1) c.args.line.now) in
    omega (arith, f, k, s)
