-- What holds of each element of a list.
use Rattle.std.proofs.Common.{[], List, Some, refl, suc, ℕ, ◌++◌, ◌∷◌, ◌≡◌}
use Rattle.std.specs.List.{flat_map}
use Rattle.std.specs.Prelude.{slice_get}
use Rattle.safl_word.proofs.Lists.{append_empty}
use Rattle.safl_net.specs.Arranged.{Each}

pub each_by_index : {X : Type 0} (P : X → Type 0) (xs : List X) → ((i : ℕ) (x : X) → slice_get xs i ≡ Some x → P x) → Each P xs
each_by_index P [] h = tt
each_by_index P (x ∷ xs) h = (h 0 x refl, each_by_index P xs (λ i y e. h (suc i) y e))

pub each_join : {X : Type 0} (P : X → Type 0) (xs ys : List X) → Each P xs → Each P ys → Each P (xs ++ ys)
each_join P [] ys h k = k
each_join P (x ∷ xs) ys h k = (h.0, each_join P xs ys h.1 k)

pub each_stands : {X : Type 0} (P Q : X → Type 0) → ((x : X) → P x → Q x) → (xs : List X) → Each P xs → Each Q xs
each_stands P Q f [] h = tt
each_stands P Q f (x ∷ xs) h = (f x h.0, each_stands P Q f xs h.1)

pub no_parts : {X Y : Type 0} (g : X → List Y) (xs : List X) → flat_map g xs ≡ [] → Each (λ x. g x ≡ []) xs
no_parts g [] h = tt
no_parts g (x ∷ xs) h = let a = append_empty (g x) (flat_map g xs) h in (a.0, no_parts g xs a.1)
