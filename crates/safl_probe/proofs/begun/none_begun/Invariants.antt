use Rattle.safl_probe.proofs.Common.{map, probe_at, ℕ, ◌<◌}
use Rattle.safl_probe.specs.Probing.{IsWaiting}
use Rattle.safl_probe.proofs.begun.none_begun.Given as goal

abbrev pub invariant-probes : goal.invariant-probes
invariant-probes g l = (k : ℕ) → k < l.i → IsWaiting (probe_at (map (λ p. (goal.Probe-dyn g (p.vtable, p.value)).state p.value) l.probes) k)
