use Rattle.safl_typing.proofs.HeadsByName.{found_member}
use Rattle.safl_typing.proofs.heads.find_callee.Goals as goal

pub returns-in-Some-clause-found : goal.returns-in-Some-clause-found
returns-in-Some-clause-found c = found_member c.args.heads.now c.in-Some.member _ _ c.in-Some.ensures.within c.in-Some.ensures.found
