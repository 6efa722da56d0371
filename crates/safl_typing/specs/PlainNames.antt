-- The names of bindings that are compared.
use Rattle.std.specs.Prelude.{ℕ, zero, suc, List, [], ◌∷◌, Option, Some, None, slice_get}
use Rattle.safl_word.specs.declared.fault.Rule.TheVariants as rules
use Rattle.safl_word.specs.declared.fault.Fault.{Fault}
use Rattle.safl_typing.specs.declared.expression.Bound.{Bound}
use Rattle.safl_typing.specs.Walk.{fault}

abbrev pub name_of : Option Bound → List ℕ
name_of None = []
name_of (Some b) = b.name

-- the names of the first n bindings, the last one first
abbrev pub earlier : List Bound → ℕ → List (List ℕ)
earlier bs zero = []
earlier bs (suc n) = name_of (slice_get bs n) ∷ earlier bs n

-- E07 at this place
abbrev pub twice_at : Option ℕ → Option Fault
twice_at None = None
twice_at (Some p) = Some (fault rules.E07 p)
