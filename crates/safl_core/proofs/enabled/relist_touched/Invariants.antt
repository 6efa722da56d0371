use Rattle.safl_core.proofs.Common.{Nothing, Relists, calls_of, ◌<◌, ◌≤◌}
use Rattle.safl_core.proofs.enabled.relist_touched.Given as goal

abbrev pub invariant-loop-k : goal.invariant-loop-k
invariant-loop-k l = Relists l.c.program l.opening (calls_of l.state) (λ j. (l.fn.touched.first ≤ j) × (j < l.k)) Nothing Nothing Nothing
    l.fn.enabled l.enabled
