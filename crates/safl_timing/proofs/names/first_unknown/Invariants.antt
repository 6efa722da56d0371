use Rattle.std.proofs.Common.{◌≡◌, drop}
use Rattle.safl_timing.specs.Names.{first_unknown, shown_names}
use Rattle.safl_timing.proofs.names.first_unknown.Given as goal

-- the names before are those of parameters
abbrev pub invariant-names : goal.invariant-names
invariant-names l = first_unknown (shown_names l.params) (shown_names (drop l.name-index l.names)) ≡ first_unknown (shown_names l.params) (shown_names l.names)
