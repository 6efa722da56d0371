-- A refusal of the source is its first fault, with the line and the column of its place.
use Rattle.std.proofs.Common.{subst, inr}
use Rattle.safl_compiler.specs.Sources
use Rattle.safl_tool.proofs.source.check_source.Goals as goal

pub returns-in-Err-Refused-clause-refused : goal.returns-in-Err-Refused-clause-refused
returns-in-Err-Refused-clause-refused c =
    inr (c.refusal_of.ensures.status, (c.in-Err-Refused.fault, subst (Sources.RefusesSource c.args.source.now) c.in-Err-Refused.field-0-is c.in-Err-Refused.ensures.refused, c.refusal_of.ensures.line))

pub unreachable-requires : goal.unreachable-requires
unreachable-requires c = subst (Sources.RefusesSource c.args.source.now) c.in-Err-TooDeep.field-0-is c.in-Err-TooDeep.ensures.refused
