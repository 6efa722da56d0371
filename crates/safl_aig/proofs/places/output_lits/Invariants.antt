use Rattle.safl_aig.proofs.Common.{lits_at, ◌≡◌}
use Rattle.safl_aig.specs.Bits.{gathered, output_at}
use Rattle.safl_aig.proofs.places.output_lits.Given as goal

abbrev pub invariant-outputs : goal.invariant-outputs
invariant-outputs l = l.all.items ≡ gathered (λ i. lits_at l.table (output_at l.net i)) l.i
