-- Names that are not driven.
use Rattle.safl_vread.proofs.Common.{Driver, Sort, VFault, first, flat_map, length-map, slice_get-get_or, slice_get-map}
use Rattle.std.proofs.Common.{◌≡◌, ℕ, ◌+◌, ◌<◌, List, length, get_or, map, Option, None, Some, true, false, ◌||◌, is_some, refl, sym, ap, ◌∙◌, arith, slice_get}
use Rattle.safl_verilog.specs.declared.token.Sort.TheVariants as sorts
use Rattle.safl_verilog.specs.Files.{Declaration, Statement}
use Rattle.safl_verilog.specs.Faults.{is_reg, is_wire, is_output, missing_faults}
use Rattle.safl_vread.specs.declared.driver.Driver.TheVariants as driver
use Rattle.safl_vread.specs.Drivers.{Drives, HasDrivers, open_faults}
use Rattle.safl_vread.proofs.FirstOfSeveral.{first_from, goes_on, stops}

no_register : (s : Sort) → (is_wire s || is_output s) ≡ true → is_reg s ≡ false
no_register sorts.Input h = refl
no_register sorts.Output h = refl
no_register sorts.Reg h = absurd cc
no_register sorts.Wire h = refl

no_target : (s : Sort) → is_reg s ≡ true → (is_wire s || is_output s) ≡ false
no_target sorts.Input h = absurd cc
no_target sorts.Output h = absurd cc
no_target sorts.Reg h = refl
no_target sorts.Wire h = absurd cc

pub same_faults : (ds : List Declaration) (ss : List Statement) (d : Declaration) (v : Driver) → Drives ds ss d v → open_faults d.sort d.name.place v ≡ missing_faults ss d
same_faults ds ss d driver.Open h = rw (h.0, h.1) refl
same_faults ds ss d (driver.Cell op xs) h = rw (h.assigned_is, no_register d.sort h.target, h.target) refl
same_faults ds ss d (driver.Next w p) h = rw (h.updated_is, no_target d.sort h.register, h.register) refl

module _ {X : Type 0} (g : X → Declaration) (xs : List X) (ss : List Statement) (vs : List Driver) (h : HasDrivers (map g xs) ss vs) (i : ℕ) (x : X)
    (v : Driver) (l : i < length xs) (is : v ≡ get_or vs i v) (fault : Option VFault)
    (here : fault ≡ first (open_faults (g (get_or xs i x)).sort (g (get_or xs i x)).name.place v)) where
  at_here : slice_get (map g xs) i ≡ Some (g (get_or xs i x))
  at_here = slice_get-map g xs i ∙ ap (λ o. mapped o) (slice_get-get_or xs i x l)
    where
      mapped : Option X → Option Declaration
      mapped None = None
      mapped (Some y) = Some (g y)

  missing_here : fault ≡ first (missing_faults ss (g (get_or xs i x)))
  missing_here =
      here ∙ ap first (same_faults (map g xs) ss (g (get_or xs i x)) v
      (h.each i (g (get_or xs i x)) v at_here (slice_get-get_or vs i v (omega (arith, l, h.full, length-map xs g)) ∙ ap Some (sym is))))

  pub missing_stops : is_some fault ≡ true → first_from g (missing_faults ss) xs i ≡ first (flat_map (missing_faults ss) (map g xs)) → fault ≡ first (flat_map (missing_faults ss) (map g xs))
  missing_stops s k = stops g (missing_faults ss) xs i x (first (flat_map (missing_faults ss) (map g xs))) fault l missing_here s k

  pub missing_goes_on : is_some fault ≡ false → first_from g (missing_faults ss) xs i ≡ first (flat_map (missing_faults ss) (map g xs)) → first_from g
      (missing_faults ss) xs (i + 1) ≡ first (flat_map (missing_faults ss) (map g xs))
  missing_goes_on s k = goes_on g (missing_faults ss) xs i x (first (flat_map (missing_faults ss) (map g xs))) fault l missing_here s k
