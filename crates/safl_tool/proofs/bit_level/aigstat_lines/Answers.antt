use Rattle.std.proofs.Common.{ℕ, List, true, subst, refl, ap, inr}
use Rattle.safl_aiger.specs.Readings.{HasThatFault}
use Rattle.safl_aiger.specs.declared.read.AigErr.{AigErr}
use Rattle.safl_tool.proofs.Bits.{same_line}
use Rattle.safl_task.specs.Tasks.{only_prints}
use Rattle.safl_tool.proofs.bit_level.aigstat_lines.Goals as goal

pub returns-in-Err-Refused-clause-refused : goal.returns-in-Err-Refused-clause-refused
returns-in-Err-Refused-clause-refused c =
    let e = c.in-Err-Refused in
    inr (refl, e.rule, e.line, subst (λ (x : AigErr). HasThatFault c.args.text.now x) e.field-0-is e.ensures.fault, same_line c.args.name.now _ e.line _ e.rule e.line-is e.rule-is)

pub returns-clause-gives : goal.returns-clause-gives
returns-clause-gives c = (c.in-Ok.circuit, c.in-Ok.ensures.reads, ap (λ (t : List ℕ). only_prints true t) c.in_ok-text.ensures)
