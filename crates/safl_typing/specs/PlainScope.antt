-- The variables of a scope of the code.
use Rattle.std.specs.Prelude.{ℕ, ◌+◌, List, ◌++◌, Option, Some, None, length}
use Rattle.std.specs.List.{AllByRecursion}
use Rattle.safl_term.specs.Slots.{HasSlots}
use Rattle.safl_term.specs.declared.term.Term.{Term}
use Rattle.safl_typing.specs.declared.scope.Scope.{Scope}
use Rattle.safl_typing.specs.declared.scope.Scope.TheVariants as scopes
use Rattle.safl_typing.specs.declared.scope.Variable.{Variable}
use Rattle.safl_typing.specs.Heads.{Slot}
use Rattle.safl_typing.specs.Typing.{At}
use Rattle.safl_typing.specs.PlainHeads.{shown_slots}

abbrev pub shown_scope : Scope → List Slot
shown_scope (scopes.Params slots) = shown_slots slots.now
shown_scope (scopes.Let' q around slots) = shown_scope around ++ shown_slots slots.now

-- the lets of these terms name their slots, which come after the variables of the scope
abbrev pub HaveSlotsAfter : Scope → List Term → Type 0
HaveSlotsAfter s ts = AllByRecursion (HasSlots (length (shown_scope s))) ts

abbrev pub found_at : Option Variable → Option At
found_at None = None
found_at (Some v) = Some (record { slot = v.slot; width = v.width })

-- the same slot, with this many slots before it
abbrev pub shifted : ℕ → Option At → Option At
shifted n None = None
shifted n (Some a) = Some (record { slot = n + a.slot; width = a.width })
