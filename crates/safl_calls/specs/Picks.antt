-- The first answer among the numbers below n, and the events of those that pass a test.
use Rattle.std.specs.Prelude.{ℕ, zero, suc, List, [], ◌∷◌, ◌++◌, Option, None, Bool, cond}
use Rattle.std.specs.Option.{option_or}
use Rattle.safl_calls.specs.Machine.{Event}

-- the answer of the least number below n that has one
unfoldable pub first : {A : Type 0} → (ℕ → Option A) → ℕ → Option A
first g zero = None
first g (suc n) = option_or (first g n) (g n)

-- the events of the numbers below n that pass a test, by rising number
unfoldable pub picks : (ℕ → Bool) → (ℕ → Event) → ℕ → List Event
picks p e zero = []
picks p e (suc n) = picks p e n ++ cond (p n) (e n ∷ []) []
