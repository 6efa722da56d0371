-- Widths of declarations whose ranges keep the rules on numbers.
use Rattle.safl_vread.proofs.Common.{VFault, and_parts, append_empty, declared_number_faults, flat_map, nat_tests, slice_index, widths_of}
use Rattle.std.proofs.Common.{◌≡◌, ℕ, zero, suc, ◌≤◌, ◌<◌, List, [], ◌∷◌, ◌++◌, Option, None, Some, Bool, true, false, ◌==◌, nat_lt, refl, arith, lit≤}
use Rattle.safl_word.specs.Numerals.{value}
use Rattle.safl_verilog.specs.declared.fault.VRule.TheVariants as rules
use Rattle.safl_verilog.specs.Files.{Spot, Declaration}
use Rattle.safl_verilog.specs.Faults.{at, where_not, number_faults, is_range, range_faults, range_width}

pub kept_true : (b : Bool) (f : VFault) → where_not b f ≡ [] → b ≡ true
kept_true true f h = refl
kept_true false f h = absurd cc

small_value : (n : ℕ) → nat_lt n 128 ≡ true → n < 128
small_value n h = grind (arith, nat_tests)

range_small : (r : Option (Spot × Spot)) → range_faults r ≡ [] → range_width r ≤ 128
range_small None h = lit≤ tt
range_small (Some r) h =
    let a = (append_empty (number_faults r.0 ++ where_not (is_range r.0 r.1) (at rules.V05 r.0.place)) (number_faults r.1) h).0 in
    let b = (append_empty (number_faults r.0) (where_not (is_range r.0 r.1) (at rules.V05 r.0.place)) a).1 in
    let c = kept_true (is_range r.0 r.1) (at rules.V05 r.0.place) b in
    let d = (and_parts (nat_lt (value 10 r.0.bytes) 128) (value 10 r.1.bytes == 0) c).0 in
    let e : value 10 r.0.bytes < 128 = small_value (value 10 r.0.bytes) d in
    omega (arith, e)

pub all_small : (ds : List Declaration) → flat_map declared_number_faults ds ≡ [] → (k : ℕ) → slice_index (widths_of ds) k ≤ 128
all_small [] h zero = lit≤ tt
all_small [] h (suc k) = lit≤ tt
all_small (d ∷ ds) h zero = range_small d.range (append_empty (declared_number_faults d) (flat_map declared_number_faults ds) h).0
all_small (d ∷ ds) h (suc k) = all_small ds (append_empty (declared_number_faults d) (flat_map declared_number_faults ds) h).1 k
