use Rattle.std.proofs.Common.{refl, inr}
use Rattle.safl_tool.proofs.reshape.refusal_of.Goals as goal

pub returns-in-Some-clause-tells : goal.returns-in-Some-clause-tells
returns-in-Some-clause-tells c = inr (refl, c.in-Some.text.now, c.in-Some.ensures.text, refl)
