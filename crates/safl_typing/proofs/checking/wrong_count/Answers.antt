use Rattle.safl_typing.proofs.Common.{Fault, ap, ◌∙◌}
use Rattle.safl_typing.specs.declared.typed.CheckErr.TheVariants as errors
use Rattle.safl_typing.proofs.WalkByForms.{wrong_is}
use Rattle.safl_typing.proofs.checking.wrong_count.Goals as goal

pub returns : goal.returns
returns c = ap (λ (f : Fault). errors.Refused f) c.with.ensures ∙ wrong_is c.args.place c.args.params.now c.args.arguments.now
