use Rattle.safl_vread.proofs.Common.{declared_names, shown_declarations}
use Rattle.safl_vread.proofs.NamesLookedUp.{IsApart}
use Rattle.safl_vread.proofs.names.declared_names.Given as goal

abbrev pub invariant-loop-d : goal.invariant-loop-d
invariant-loop-d l = IsApart (declared_names (shown_declarations l.text l.declarations)) l.d-index l.names
