use Rattle.std.proofs.Common.{◌≡◌, drop}
use Rattle.safl_timing.specs.Names.{has_name, shown_names}
use Rattle.safl_timing.proofs.names.has_name.Given as goal

-- none before is the name
abbrev pub invariant-names : goal.invariant-names
invariant-names l = has_name (shown_names (drop l.name-index l.names)) l.wanted ≡ has_name (shown_names l.names) l.wanted
