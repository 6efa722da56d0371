use Rattle.safl_probe.proofs.Common.{Signal, Word}
use Rattle.std.proofs.Common.{◌≡◌, map, take}
use Rattle.safl_probe.proofs.room.make_room.Given as goal

abbrev pub invariant-signals : goal.invariant-signals
invariant-signals l = map (λ (w : Word). w.width) l.frame.items ≡ map (λ (g : Signal). g.width) (take l.i l.sim.net.signals)
