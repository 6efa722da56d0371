use Rattle.safl_aig.proofs.Common.{gathered, names_of, of_kind, ◌≡◌}
use Rattle.safl_aig.specs.Tables.{kind_test}
use Rattle.safl_aig.specs.Places.{signal_names}
use Rattle.safl_aig.proofs.places.kind_names.Given as goal

abbrev pub invariant-signals : goal.invariant-signals
invariant-signals l = names_of l.all.items ≡ gathered (of_kind (kind_test l.sort) l.net (signal_names l.net)) l.i
