use Rattle.safl_vparse.specs.Shown.{shown_spots}
use Rattle.safl_vread.proofs.NamesLookedUp.{IsApart}
use Rattle.safl_vread.proofs.names.header_names.Given as goal

abbrev pub invariant-loop-x : goal.invariant-loop-x
invariant-loop-x l = IsApart (shown_spots l.text l.header) l.x-index l.names
