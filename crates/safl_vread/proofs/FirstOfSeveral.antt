-- First faults of lists that are made of several.
use Rattle.safl_vread.proofs.Common.{VFault, first, flat_map}
use Rattle.std.proofs.Common.{◌≡◌, ℕ, ◌+◌, ◌<◌, ◌≤◌, List, [], ◌∷◌, ◌++◌, length, drop, get_or, map, Option, None, Some, true, false, is_some, refl, sym, ◌∙◌, drop-cons, add-one}
use Rattle.std.proofs.lemmas.List.{drop_all}

-- a list without a fault is followed by the next one, and a fault comes before what follows
pub first_none : (a b : List VFault) → None ≡ first a → first (a ++ b) ≡ first b
first_none [] b h = refl
first_none (f ∷ a) b h = absurd cc

pub first_some : (a b : List VFault) (f : VFault) → Some f ≡ first a → Some f ≡ first (a ++ b)
first_some [] b f h = absurd cc
first_some (g ∷ a) b f h = h

module _ {X Y : Type 0} (g : X → Y) (faults : Y → List VFault) (xs : List X) where
  -- the first fault from an item on
  abbrev pub first_from : ℕ → Option VFault
  first_from i = first (flat_map faults (map g (drop i xs)))

  first_parts : (i : ℕ) (x : X) → i < length xs → first_from i ≡ first (faults (g (get_or xs i x)) ++ flat_map faults (map g (drop (i + 1) xs)))
  first_parts i x h = rw (add-one) (rw (drop-cons xs i x h) refl)

  pub goes_on : (i : ℕ) (x : X) (t fault : Option VFault) → i < length xs → fault ≡ first (faults (g (get_or xs i x))) → is_some fault ≡ false → first_from i ≡ t → first_from (i + 1) ≡ t
  goes_on i x t None h e none so_far = sym (first_parts i x h ∙ first_none (faults (g (get_or xs i x))) (flat_map faults (map g (drop (i + 1) xs))) e) ∙ so_far
  goes_on i x t (Some f) h e none so_far = absurd cc

  pub stops : (i : ℕ) (x : X) (t fault : Option VFault) → i < length xs → fault ≡ first (faults (g (get_or xs i x))) → is_some fault ≡ true → first_from i ≡ t → fault ≡ t
  stops i x t None h e some so_far = absurd cc
  stops i x t (Some f) h e some so_far = first_some (faults (g (get_or xs i x))) (flat_map faults (map g (drop (i + 1) xs))) f e ∙ sym (first_parts i x h) ∙ so_far

  pub ends : (i : ℕ) (t : Option VFault) → length xs ≤ i → first_from i ≡ t → None ≡ t
  ends i t h so_far = rw (drop_all i xs h) at so_far
