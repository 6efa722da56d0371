use Rattle.std.proofs.Common.{◌≡◌, take}
use Rattle.safl_timing.specs.Names.{shown_names}
use Rattle.safl_timing.proofs.names.main_params.Given as goal

abbrev pub invariant-params : goal.invariant-params
invariant-params l = shown_names l.names.items ≡ take l.i (l.c.names.params l.main)
