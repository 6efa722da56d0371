-- What a machine comes to after its events.
use Rattle.std.specs.Prelude.{◌≡◌, ◌≤◌, ◌+◌, ◌*◌}
use Rattle.safl_word.specs.Words.{Word}
use Rattle.safl_term.specs.Meaning.{Main, main_cost, loops}
use Rattle.safl_calls.specs.Machine.{Event}
use Rattle.safl_core.specs.Shown.{Shown, CanFire}

-- The word is main's value, after three events for each call, less two for each tail call.
abbrev pub IsValue : Shown → Word → Type 0
IsValue m v = (d : Main m.program m.args v) × (m.events + 2 * loops m.program d ≡ 3 * main_cost m.program m.args d)

-- if main has a value, no more events were fired than its calls and tail calls allow
abbrev pub IsBounded : Shown → Type 0
IsBounded m = (v : Word) (d : Main m.program m.args v) → m.events + 2 * loops m.program d ≤ 3 * main_cost m.program m.args d

-- some event is enabled; no event is
abbrev pub GoesOn : Shown → Type 0
GoesOn m = (e : Event) × CanFire m e

abbrev pub IsOver : Shown → Type 0
IsOver m = (e : Event) → CanFire m e → ⊥
