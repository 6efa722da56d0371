use Rattle.safl_lower.proofs.Heights.{or_within, or_alone}
use Rattle.safl_lower.proofs.gates.or_some.Goals as goal

pub returns-in-None-clause-height : goal.returns-in-None-clause-height
returns-in-None-clause-height c = or_alone c.args.net.now c.args.a c.args.b c.in-None.is

pub returns-in-Some-clause-height : goal.returns-in-Some-clause-height
returns-in-Some-clause-height c = or_within c.either.new.net c.either.result c.args.a c.in-Some.a c.args.b c.in-Some.is c.either.ensures.gate
