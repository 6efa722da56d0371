use Rattle.safl_lower.proofs.Common.{Load, Some, map, ◌≡◌}
use Rattle.safl_lower.proofs.load_tables.all_loads.Given as goal

abbrev pub invariant-loop-place : goal.invariant-loop-place
invariant-loop-place l = map (λ (x : Load). Some x) l.loads.items ≡ l.yielded
