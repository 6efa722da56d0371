-- The numbers of signals, by the places of their declarations.
use Rattle.safl_vread.proofs.Common.{AreNumbers, Distinct, IsOrder, each_at, each_found, eqb-true, length-set, names, nat_tests, place_at}
use Rattle.safl_vread.proofs.Common.{slice_get_within, slice_index, without_statements}
use Rattle.std.proofs.Common.{◌≡◌, ◌≢◌, ℕ, ◌+◌, ◌<◌, ◌≤◌, List, [], length, get_or, set, Bool, true, false, Some, ◌==◌, refl, sym, ap, ◌∙◌, arith, slice_get, get_or-set_same, get_or-set_other}
use Rattle.safl_verilog.specs.Files.{Declaration}
use Rattle.safl_verilog.specs.Faults.{find, is_signal}
use Rattle.safl_verilog.specs.Netlists.{signals_of, declared_place, signal_number}
use Rattle.safl_vread.proofs.WholeFiles.{found_signal, found_place}
use Rattle.safl_vread.proofs.SignalNames.{signals_distinct}
use Rattle.safl_vread.proofs.Orders.{placed, ordered, order_long}

-- no place stands twice in the order
pub order_apart : (ds : List Declaration) (order : List ℕ) → Distinct (names ds) → IsOrder ds order → (s t p : ℕ) → slice_get order s ≡ Some p → slice_get order t ≡ Some p → s ≡ t
order_apart ds order a h s t p k l =
    let x = placed (slice_get ds) order (signals_of ds) h s p k in
    let y = placed (slice_get ds) order (signals_of ds) h t p l in
    let same : x.item ≡ y.item = let e : Some x.item ≡ Some y.item = sym x.there ∙ y.there in cc in
    let d = signals_distinct ds a in
    sym (place_at (signals_of ds) d s x.item x.at) ∙ ap (λ (v : Declaration). declared_place (signals_of ds) v.name.bytes) same ∙ place_at (signals_of ds) d t y.item y.at

-- what holds after some of the places
pub record SoNumbered (order numbers : List ℕ) (count i : ℕ) : Type 0 where
  pub full : length numbers ≡ count
  pub each : (s p : ℕ) → s < i → slice_get order s ≡ Some p → slice_index numbers p ≡ s
  pub known : (p : ℕ) → slice_index numbers p < length order

other_number : (m n : ℕ) → (m == n) ≡ false → m ≢ n
other_number m n h = λ e. grind (arith, nat_tests, e)

pub goes_on_numbers : (order numbers : List ℕ) (count i q : ℕ) → ((s t p : ℕ) → slice_get order s ≡ Some p → slice_get order t ≡ Some p → s ≡ t) →
    slice_get order i ≡ Some q → i < length order → q < count
    → SoNumbered order numbers count i → SoNumbered order (set numbers q i) count (i + 1)
goes_on_numbers order numbers count i q apart at l within h = record {
  full = length-set numbers q i ∙ h.full;
  each = λ s p k e. each s p k e (s == i) refl;
  known = λ p. known p (p == q) refl;
}
  where
    inside : q < length numbers
    inside = omega (arith, within, h.full)

    each : (s p : ℕ) → s < i + 1 → slice_get order s ≡ Some p → (b : Bool) → (s == i) ≡ b → get_or (set numbers q i) p 0 ≡ s
    each s p k e true t =
        let same : s ≡ i = eqb-true s i t in
        let place : p ≡ q = let r : Some p ≡ Some q = sym e ∙ ap (slice_get order) same ∙ at in cc in
        ap (λ (n : ℕ). get_or (set numbers q i) n 0) place ∙ get_or-set_same numbers q i 0 inside ∙ sym same
    each s p k e false t =
        let other : s ≢ i = other_number s i t in
        let away : p ≢ q = λ (r : p ≡ q). other (apart s i p e (at ∙ ap Some (sym r))) in
        get_or-set_other numbers q p i 0 away ∙ h.each s p (omega (arith, k, other)) e

    known : (p : ℕ) (b : Bool) → (p == q) ≡ b → get_or (set numbers q i) p 0 < length order
    known p true t =
        let same : p ≡ q = eqb-true p q t in
        omega (arith, l, ap (λ (n : ℕ). get_or (set numbers q i) n 0) same ∙ get_or-set_same numbers q i 0 inside)
    known p false t = omega (arith, h.known p, get_or-set_other numbers q p i 0 (other_number p q t))

pub ends_numbers : (ds : List Declaration) (order numbers : List ℕ) (i : ℕ) → Distinct (names ds) → IsOrder ds order → length order ≤ i → SoNumbered
    order numbers (length ds) i → AreNumbers ds order numbers
ends_numbers ds order numbers i a o l h = record {
  full = h.full;
  each = λ p d there fit. (each p d there fit).0;
  back = λ p d there fit. let k = each p d there fit in ap (slice_get order) k.0 ∙ k.1;
  known = λ p. omega (arith, h.known p, order_long ds order o);
}
  where
    each : (p : ℕ) (d : Declaration) → slice_get ds p ≡ Some d → is_signal d ≡ true → (slice_index numbers p ≡ signal_number ds d.name.bytes)
        × (slice_get order (signal_number ds d.name.bytes) ≡ Some p)
    each p d there fit =
        let found : find ds d.name.bytes ≡ Some d = each_at (λ (d : Declaration). find ds d.name.bytes ≡ Some d) ds p d (each_found ds a) there in
        let at = (found_place (without_statements [] ds) (signals_of ds) d.name.bytes d 0 (found_signal ds d.name.bytes d a found fit)).1 in
        let k = ordered (slice_get ds) order (signals_of ds) o (signal_number ds d.name.bytes) d at in
        let same : k.place ≡ p = sym (place_at ds a k.place d k.there) ∙ place_at ds a p d there in
        let within : signal_number ds d.name.bytes < length order = slice_get_within order (signal_number ds d.name.bytes) k.place k.at in
        (ap (slice_index numbers) (sym same) ∙ h.each (signal_number ds d.name.bytes) k.place (omega (arith, within, l)) k.at, k.at ∙ ap Some same)
