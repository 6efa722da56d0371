-- Lists of names.
use Rattle.std.proofs.Common.{◌≡◌, ℕ, List, [], ◌∷◌, ◌++◌, length, Vec, Global, Bool, suc, refl, ap}
use Rattle.safl_timing.specs.Names.{are_secret, shown_names}

pub shown_more : (names : List (Vec ℕ Global)) (name : Vec ℕ Global) → shown_names (names ++ name ∷ []) ≡ shown_names names ++ name.items ∷ []
shown_more [] name = refl
shown_more (n ∷ ns) name = ap (λ l. n.items ∷ l) (shown_more ns name)

-- there is a flag for each parameter
pub as_many : (listed : Bool) (names params : List (List ℕ)) → length (are_secret listed names params) ≡ length params
as_many listed names [] = refl
as_many listed names (p ∷ ps) = ap suc (as_many listed names ps)
