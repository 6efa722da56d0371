-- The texts of operations, by how many operands they take. For other numbers of operands they are empty.
use Rattle.std.specs.Prelude.{ℕ, List, [], ◌∷◌, ◌++◌, codes}
use Rattle.safl_net.specs.Written.{Text, slice}

-- an operator on operands with these names
abbrev pub two_operands : Text → List Text → Text
two_operands s (a ∷ b ∷ []) = a ++ codes " " ++ s ++ codes " " ++ b
two_operands s _ = []

abbrev pub inverted : List Text → Text
inverted (a ∷ []) = codes "~" ++ a
inverted _ = []

abbrev pub joined_texts : List Text → Text
joined_texts (a ∷ b ∷ []) = codes "{" ++ a ++ codes ", " ++ b ++ codes "}"
joined_texts _ = []

abbrev pub sliced : ℕ → ℕ → List Text → Text
sliced high low (a ∷ []) = a ++ slice high low
sliced high low _ = []

abbrev pub plain : List Text → Text
plain (a ∷ []) = a
plain _ = []

abbrev pub selected : List Text → Text
selected (c ∷ a ∷ b ∷ []) = c ++ codes " ? " ++ a ++ codes " : " ++ b
selected _ = []
