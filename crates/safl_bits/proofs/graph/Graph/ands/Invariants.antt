use Rattle.safl_bits.proofs.Common.{pairs, take, ◌≡◌}
use Rattle.safl_bits.proofs.graph.Graph.ands.Given as goal

abbrev pub invariant-ands : goal.invariant-ands
invariant-ands l = l.all.items ≡ pairs (take l.i l.found)
