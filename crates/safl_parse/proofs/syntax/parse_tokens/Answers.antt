use Rattle.safl_tree.specs.Shown.{shown_program}
use Rattle.safl_tree.proofs.Sources.{one_program, not_both, one_fault}
use Rattle.safl_parse.proofs.Refusals.{spelled, refused}
use Rattle.safl_parse.proofs.syntax.parse_tokens.Goals as goal

pub returns-in-Ok-clause-program : goal.returns-in-Ok-clause-program
returns-in-Ok-clause-program c = spelled c.args.source.now c.args.tokens.now c.in-Ok.field-0-1.now (shown_program c.in-Ok.program) c.in-Ok.ensures

pub returns-in-Ok-clause-spelled : goal.returns-in-Ok-clause-spelled
returns-in-Ok-clause-spelled c p s = one_program c.args.source.now c.args.tokens.now (shown_program c.in-Ok.program) p
    (spelled c.args.source.now c.args.tokens.now c.in-Ok.field-0-1.now (shown_program c.in-Ok.program) c.in-Ok.ensures) s

pub returns-in-Ok-clause-faulty : goal.returns-in-Ok-clause-faulty
returns-in-Ok-clause-faulty c f t = not_both c.args.source.now c.args.tokens.now (shown_program c.in-Ok.program) f
    (spelled c.args.source.now c.args.tokens.now c.in-Ok.field-0-1.now (shown_program c.in-Ok.program) c.in-Ok.ensures) t

pub returns-in-Err-Refused-clause-refused : goal.returns-in-Err-Refused-clause-refused
returns-in-Err-Refused-clause-refused c = refused c.args.source.now c.args.tokens.now c.in-Err-Refused.rest.now c.in-Err-Refused.cause
    c.fault_at.result (rw c.in-Err-Refused.field-0-is at c.in-Err-Refused.ensures) c.fault_at.ensures

pub returns-in-Err-Refused-clause-spelled : goal.returns-in-Err-Refused-clause-spelled
returns-in-Err-Refused-clause-spelled c p s = not_both c.args.source.now c.args.tokens.now p c.fault_at.result s
    (refused c.args.source.now c.args.tokens.now c.in-Err-Refused.rest.now c.in-Err-Refused.cause c.fault_at.result
    (rw c.in-Err-Refused.field-0-is at c.in-Err-Refused.ensures) c.fault_at.ensures)

pub returns-in-Err-Refused-clause-faulty : goal.returns-in-Err-Refused-clause-faulty
returns-in-Err-Refused-clause-faulty c f t = one_fault c.args.source.now c.args.tokens.now c.fault_at.result f
    (refused c.args.source.now c.args.tokens.now c.in-Err-Refused.rest.now c.in-Err-Refused.cause c.fault_at.result
    (rw c.in-Err-Refused.field-0-is at c.in-Err-Refused.ensures) c.fault_at.ensures) t
