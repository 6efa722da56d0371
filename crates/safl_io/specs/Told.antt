-- Objects that may tell what they hold or what was sent to them.
use Rattle.std.specs.Prelude.{Option, IsSomeAnd, IfSome}

-- An object that told before the call tells after it too, and what it tells is in this relation.
abbrev pub TellsOn : {A : Type 0} → (A → A → Type 0) → Option A → Option A → Type 0
TellsOn {A} R old now = IfSome old (λ (before : A). IsSomeAnd now (R before))
