use Rattle.safl_aiger.proofs.Common.{[], names_of, replicate, ◌≡◌}
use Rattle.safl_aiger.proofs.symbols.empty_names.Given as goal

abbrev pub invariant-loop-i : goal.invariant-loop-i
invariant-loop-i l = names_of l.all.items ≡ replicate l._i []
