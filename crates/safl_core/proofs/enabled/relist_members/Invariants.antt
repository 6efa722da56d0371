use Rattle.safl_core.proofs.Common.{Nothing, Relists, calls_of, ◌<◌, ◌≡◌}
use Rattle.safl_core.proofs.enabled.relist_members.Given as goal

abbrev pub invariant-loop-f : goal.invariant-loop-f
invariant-loop-f l = Relists l.c.program l.opening (calls_of l.state) Nothing Nothing (λ g. (l.c.program.unit g ≡ l.u) × (g < l.f)) Nothing l.fn.enabled l.enabled
