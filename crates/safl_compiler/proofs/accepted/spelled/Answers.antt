use Rattle.std.proofs.Common.{subst}
use Rattle.safl_parse.specs.Answers.{RefusedFirst}
use Rattle.safl_parse.specs.declared.syntax.ParseErr.{ParseErr}
use Rattle.safl_compiler.specs.Sources.{syntax_fault}
use Rattle.safl_compiler.proofs.accepted.spelled.Goals as goal

pub returns-in-Err-Refused-clause-refused : goal.returns-in-Err-Refused-clause-refused
returns-in-Err-Refused-clause-refused c = syntax_fault (subst (λ (e : ParseErr). RefusedFirst c.args.source.now e) c.in-Err-Refused.field-0-is c.in-Err-Refused.ensures.refused)
