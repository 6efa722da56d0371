use Rattle.safl_aig.proofs.Common.{gathered, lits_at, next_sig, of_kind, ◌≡◌}
use Rattle.safl_net.specs.Netlist.{is_register}
use Rattle.safl_aig.proofs.places.next_lits.Given as goal

abbrev pub invariant-signals : goal.invariant-signals
invariant-signals l = l.all.items ≡ gathered (of_kind is_register l.net (λ s. lits_at l.table (next_sig l.net s))) l.i
