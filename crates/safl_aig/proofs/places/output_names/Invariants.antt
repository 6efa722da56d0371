use Rattle.safl_aig.proofs.Common.{gathered, names_of, ◌≡◌}
use Rattle.safl_aig.specs.Places.{output_names}
use Rattle.safl_aig.proofs.places.output_names.Given as goal

abbrev pub invariant-outputs : goal.invariant-outputs
invariant-outputs l = names_of l.all.items ≡ gathered (output_names l.net) l.i
