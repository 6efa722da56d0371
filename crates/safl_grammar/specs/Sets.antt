-- Sets of codes of tokens, with which one can compute.
use Rattle.std.specs.Prelude.{ℕ, List, [], ◌∷◌, ◌++◌, Bool, true, false, ◌==◌, if◌then◌else◌}

pub data Set : Type 0 where
  Every : Set
  Only : List ℕ → Set

abbrev pub member : ℕ → List ℕ → Bool
member c [] = false
member c (x ∷ xs) = if c == x then true else member c xs

abbrev pub within : Set → ℕ → Bool
within Every c = true
within (Only xs) c = member c xs

abbrev pub all_in : List ℕ → List ℕ → Bool
all_in [] ys = true
all_in (x ∷ xs) ys = if member x ys then all_in xs ys else false

-- whether each code of the first set is in the second
abbrev pub subset : Set → Set → Bool
subset A Every = true
subset Every (Only ys) = false
subset (Only xs) (Only ys) = all_in xs ys

abbrev pub union : Set → Set → Set
union Every B = Every
union (Only xs) Every = Every
union (Only xs) (Only ys) = Only (xs ++ ys)

abbrev pub none_in : List ℕ → Set → Bool
none_in [] B = true
none_in (x ∷ xs) B = if within B x then false else none_in xs B

-- whether no code is in both sets
abbrev pub apart : Set → Set → Bool
apart Every B = false
apart (Only xs) B = none_in xs B

-- the first set, and the second as well if the test holds
abbrev pub union_if : Bool → Set → Set → Set
union_if true A B = union A B
union_if false A B = A
