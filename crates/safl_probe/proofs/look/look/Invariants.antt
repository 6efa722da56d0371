use Rattle.safl_probe.proofs.Common.{Word, map, ◌≡◌}
use Rattle.safl_probe.proofs.Spots.{looked_first}
use Rattle.safl_probe.proofs.look.look.Given as goal

abbrev pub invariant-spots : goal.invariant-spots
invariant-spots l = l.spots ≡ looked_first (map (λ (w : Word). w.bits) l.frame) l.initial.spots l.i
