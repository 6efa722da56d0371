-- Definitions that have forms keep the limits on parameters and bindings.
use Rattle.safl_reshape.proofs.Common.{AreFunctionsOf, Definition, FunctionForm, Head, no_long_let, rewritten, unit_of}
use Rattle.std.proofs.Common.{ℕ, suc, List, [], ◌∷◌}
use Rattle.safl_reshape.specs.Limits.{KeepsLists}

pub lists_kept : (all : List Head) (n u w lo hi : ℕ) (ds : List Definition) (fs : List FunctionForm) → AreFunctionsOf all n u w lo hi ds fs → KeepsLists ds
lists_kept all n u w lo hi [] fs h = tt
lists_kept all n u w lo hi (d ∷ ds) [] h = absurd h
lists_kept all n u w lo hi (d ∷ ds) (f ∷ fs) (m, is, j, rest) = (is.few_params, no_long_let (rewritten d.body) is.short_lets, lists_kept all (suc n) (unit_of n u d) d.width m hi ds fs rest)
