use Rattle.safl_core.proofs.Common.{state, ◌+◌, ◌≡◌}
use Rattle.safl_core.specs.Walking.{Walked}
use Rattle.safl_core.proofs.walking.walk.Given as goal

abbrev pub invariant-loop-turn : goal.invariant-loop-turn
invariant-loop-turn l =
    (l.machine.checked ≡ l.initial.machine.checked) × (l.machine.args ≡ l.initial.machine.args)
    × Walked l.initial.machine.program l.initial.machine.args (state l.initial.machine) l.fn.seed l._turn (state l.machine) l.number l.units
    × (l.machine.events ≡ l.initial.machine.events + l._turn)
