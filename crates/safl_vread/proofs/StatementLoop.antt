-- Statements one after the other.
use Rattle.safl_vread.proofs.Common.{Driver, VFault, append_empty, declared_names, first, flat_map, map-append}
use Rattle.std.proofs.Common.{◌≡◌, ℕ, ◌+◌, ◌<◌, List, [], ◌∷◌, ◌++◌, length, get_or, set, map, take, drop, Some, Ok, Err, sym, ap, subst, ◌∙◌, drop-cons, add-one}
use Rattle.safl_verilog.specs.Files.{Declaration, Statement}
use Rattle.safl_verilog.specs.Faults.{repeat_faults, statement_faults, all_statement_faults, stated_number_faults}
use Rattle.safl_vread.specs.Drivers.{HasDrivers, Steps}
use Rattle.safl_vread.proofs.FirstOfSeveral.{first_some}
use Rattle.safl_vread.proofs.NamesLookedUp.{take_next}
use Rattle.safl_vread.proofs.StatementsDrive.{next_drivers}

-- what holds after some of the statements
pub record IsSoFar {X : Type 0} (ds : List Declaration) (g : X → Statement) (xs : List X) (i : ℕ) (vs : List Driver) : Type 0 where
  pub faults : all_statement_faults ds [] (map g xs) ≡ all_statement_faults ds (map g (take i xs)) (map g (drop i xs))
  pub numbers : flat_map stated_number_faults (map g (drop i xs)) ≡ []
  pub drivers : HasDrivers ds (map g (take i xs)) vs

module _ {X : Type 0} (ds : List Declaration) (g : X → Statement) (xs : List X) (i : ℕ) (x : X) (vs : List Driver) (l : i < length xs) (h : IsSoFar ds g xs i vs) where
  dropped : drop i xs ≡ get_or xs i x ∷ drop (i + 1) xs
  dropped = drop-cons xs i x l ∙ ap (λ k. get_or xs i x ∷ drop k xs) (sym (add-one i))

  taken : map g (take (i + 1) xs) ≡ map g (take i xs) ++ g (get_or xs i x) ∷ []
  taken = ap (λ k. map g (take k xs)) (add-one i) ∙ ap (map g) (take_next xs (drop (i + 1) xs) i (get_or xs i x) dropped) ∙ map-append g (take i xs) (get_or xs i x ∷ [])

  numbers_here : (stated_number_faults (g (get_or xs i x)) ≡ []) × (flat_map stated_number_faults (map g (drop (i + 1) xs)) ≡ [])
  numbers_here = append_empty (stated_number_faults (g (get_or xs i x))) (flat_map stated_number_faults (map g (drop (i + 1) xs)))
      (sym (ap (λ (k : List X). flat_map stated_number_faults (map g k)) dropped) ∙ h.numbers)

  pub number_kept : stated_number_faults (g (get_or xs i x)) ≡ []
  number_kept = numbers_here.0

  faults_here : all_statement_faults ds [] (map g xs) ≡ statement_faults ds (map g (take i xs)) (g (get_or xs i x)) ++ all_statement_faults ds
      (map g (take i xs) ++ g (get_or xs i x) ∷ []) (map g (drop (i + 1) xs))
  faults_here = h.faults ∙ ap (λ (k : List X). all_statement_faults ds (map g (take i xs)) (map g k)) dropped

  pub stops_at : (f : VFault) → Steps ds (map g (take i xs)) (g (get_or xs i x)) (Err f) → Some f ≡ first (all_statement_faults ds [] (map g xs))
  stops_at f k = first_some (statement_faults ds (map g (take i xs)) (g (get_or xs i x))) _ f k ∙ sym (ap first faults_here)

  pub goes_past : repeat_faults [] (declared_names ds) ≡ [] → (r : ℕ × Driver) → Steps ds (map g (take i xs)) (g (get_or xs i x)) (Ok r) → IsSoFar ds g xs (i + 1) (set vs r.0 r.1)
  goes_past apart r k = record {
    faults = faults_here ∙ ap (λ (a : List VFault). a ++ all_statement_faults ds (map g (take i xs) ++ g (get_or xs i x) ∷ [])
        (map g (drop (i + 1) xs))) k.kept ∙ ap (λ (b : List Statement). all_statement_faults ds b (map g (drop (i + 1) xs))) (sym taken);
    numbers = numbers_here.1;
    drivers = subst (λ (b : List Statement). HasDrivers ds b (set vs r.0 r.1)) (sym taken) (next_drivers ds (map g (take i xs)) (g (get_or xs i x)) r.0 r.1 vs apart h.drivers k);
  }
