use Rattle.std.proofs.Common.{◌≡◌, ◌++◌, drop}
use Rattle.safl_timing.specs.Names.{are_secret, shown_names}
use Rattle.safl_timing.proofs.names.are_secret.Given as goal

abbrev pub invariant-params : goal.invariant-params
invariant-params l =
    l.flags.items ++ are_secret l.listed (shown_names l.names) (shown_names (drop l.param-index l.params)) ≡ are_secret l.listed (shown_names l.names) (shown_names l.params)
