-- The heads of groups.
use Rattle.std.specs.Prelude.{ℕ, zero, suc, List, [], ◌∷◌, drop, Option, None, slice_get}
use Rattle.std.specs.Option.{option_map_or}
use Rattle.safl_word.specs.declared.fault.Fault.{Fault}
use Rattle.safl_tree.specs.Tree.{Definition}
use Rattle.safl_typing.specs.Walk.{group_fault}

abbrev pub name_in : Option Definition → List ℕ
name_in o = option_map_or (λ (d : Definition). d.name) o []

-- the names of the definitions before number n, the last one first
abbrev pub earlier : List Definition → ℕ → List (List ℕ)
earlier ds zero = []
earlier ds (suc n) = name_in (slice_get ds n) ∷ earlier ds n

-- the first fault of the heads of the group that begins with the first of these definitions
abbrev pub first_group_fault : List (List ℕ) → List Definition → Option Fault
first_group_fault names [] = None
first_group_fault names (d ∷ ds) = group_fault names d ds

-- the first fault of the heads of the group that begins with definition n
abbrev pub group_fault_at : List Definition → ℕ → Option Fault
group_fault_at ds n = first_group_fault (earlier ds n) (drop n ds)
