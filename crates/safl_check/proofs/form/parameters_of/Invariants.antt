use Rattle.safl_check.proofs.Common.{map, shown_param, shown_parameters, slot_of, take, ◌≡◌}
use Rattle.safl_check.proofs.form.parameters_of.Given as goal

abbrev pub invariant-loop-param : goal.invariant-loop-param
invariant-loop-param l = map shown_param l.all.items ≡ map slot_of (shown_parameters (take l.param-index l.params))
