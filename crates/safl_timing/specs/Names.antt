-- A list of names, and which parameters it makes secret.
use Rattle.std.specs.Prelude.{ℕ, List, [], ◌∷◌, ◌++◌, map, Vec, Option, Some, None, Bool, true, false, cond, not, ◌==◌, ◌||◌}
use Rattle.std.specs.Str.{bytes_eq}
use Rattle.std.specs.declared.alloc.Global.{Global}

abbrev pub shown_names : List (Vec ℕ Global) → List (List ℕ)
shown_names names = map (λ (name : Vec ℕ Global). name.items) names

-- the name that began with this part, and those after it; between two names there is a comma
abbrev pub names_from : List ℕ → List ℕ → List (List ℕ)
names_from name [] = name ∷ []
names_from name (c ∷ cs) = cond (c == 44) (name ∷ names_from [] cs) (names_from (name ++ c ∷ []) cs)

-- the names in a list; the empty list has none
abbrev pub names_in : List ℕ → List (List ℕ)
names_in [] = []
names_in (c ∷ cs) = names_from [] (c ∷ cs)

abbrev pub has_name : List (List ℕ) → List ℕ → Bool
has_name [] name = false
has_name (n ∷ ns) name = bytes_eq n name || has_name ns name

-- the first of some names that is none of main's parameters
abbrev pub first_unknown : List (List ℕ) → List (List ℕ) → Option (List ℕ)
first_unknown params [] = None
first_unknown params (n ∷ ns) = cond (has_name params n) (first_unknown params ns) (Some n)

-- whether a parameter is secret, if those in the list are; or if those not in the list are
abbrev pub is_secret : Bool → List (List ℕ) → List ℕ → Bool
is_secret true names param = has_name names param
is_secret false names param = not (has_name names param)

-- which parameters are secret
abbrev pub are_secret : Bool → List (List ℕ) → List (List ℕ) → List Bool
are_secret listed names params = map (is_secret listed names) params
