use Rattle.std.proofs.Common.{◌≡◌, ◌++◌, [], drop}
use Rattle.safl_timing.specs.Names.{names_from, shown_names}
use Rattle.safl_timing.proofs.names.names_in.Given as goal

abbrev pub invariant-bytes : goal.invariant-bytes
invariant-bytes l = shown_names l.names.items ++ names_from l.name.items (drop l.byte-index l.list) ≡ names_from [] l.list
