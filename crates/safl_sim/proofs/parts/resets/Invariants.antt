use Rattle.std.proofs.Common.{◌≡◌, map, take}
use Rattle.safl_net.specs.Netlist.{Signal}
use Rattle.safl_net.specs.Valuations.{kind_reset}
use Rattle.safl_sim.proofs.parts.resets.Given as goal

abbrev pub invariant-signals : goal.invariant-signals
invariant-signals l = l.numbers.items ≡ map (λ (g : Signal). kind_reset g.kind) (take l.i l.net.signals)
