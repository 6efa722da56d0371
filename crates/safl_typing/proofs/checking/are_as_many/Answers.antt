use Rattle.std.proofs.Common.{length, refl}
use Rattle.safl_typing.proofs.WalkByForms.{same_count}
use Rattle.safl_typing.proofs.checking.are_as_many.Goals as goal

pub returns : goal.returns
returns c = same_count (length c.args.params.now) (length c.args.arguments.now) c.args.params.now c.args.arguments.now refl refl
