use Rattle.std.proofs.Common.{◌≡◌, [], drop}
use Rattle.safl_typing.specs.Walk.{repeated}
use Rattle.safl_check.proofs.EarlierNames.{places, param_names}
use Rattle.safl_check.proofs.groups.find_repeated_param.Given as goal

-- the rest decides
abbrev pub invariant-loop-i : goal.invariant-loop-i
invariant-loop-i l = repeated [] (places l.params) ≡ repeated (param_names l.params l.i) (places (drop l.i l.params))
