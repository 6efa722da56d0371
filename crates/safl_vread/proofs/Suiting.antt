-- Widths of signals, so that cells and next signals are never refused.
use Rattle.safl_vread.proofs.Common.{AreNumbers, Driver, op_width, option_map, slice_index}
use Rattle.std.proofs.Common.{◌≡◌, ℕ, zero, suc, ◌≤◌, List, [], ◌∷◌, length, get_or, map, Option, None, Some, unwrap_or, refl, sym, ap, ◌∙◌, arith, slice_get}
use Rattle.std.proofs.lemmas.Option.{slice_get-get_or, slice_get-map, slice_get_within}
use Rattle.safl_net.specs.Netlist.{Netlist, Signal, width_of}
use Rattle.safl_net.specs.Netlist as Netlist
use Rattle.safl_verilog.specs.Files.{Spot, Declaration, Statement}
use Rattle.safl_verilog.specs.Faults.{range_width, width_in, operation, operands}
use Rattle.safl_verilog.specs.Faults as Faults
use Rattle.safl_vread.specs.declared.driver.Driver.TheVariants as driver
use Rattle.safl_vread.specs.Drivers.{AreAt, places_of, Drives, HasDrivers}
use Rattle.safl_vread.specs.Nets.{IsSignalAt, AreSignalsAt, width_at, Suits, AllSuit, SuitsIn, signal_in, signal_at, signals_at, partly}

-- ---- what drives a name suits it

range_some : (r : Option (Spot × Spot)) → 1 ≤ range_width r
range_some None = omega arith
range_some (Some r) = omega arith

some_width : (o : Option ℕ) (n : ℕ) → 1 ≤ n → n ≡ unwrap_or o 0 → o ≡ Some n
some_width None n l h = absurd (omega (arith, l, h))
some_width (Some m) n l h = ap Some (sym h)

are_signals : (ds : List Declaration) (ps : List ℕ) (xs : List Spot) → AreAt ds ps xs → AreSignalsAt ds ps
are_signals ds [] [] h = tt
are_signals ds [] (x ∷ xs) h = absurd h
are_signals ds (p ∷ ps) [] h = absurd h
are_signals ds (p ∷ ps) (x ∷ xs) h = (record { declared = h.0.declared; there = h.0.there; fit = h.0.fit }, are_signals ds ps xs h.1)

widths_at : (ds : List Declaration) (ps : List ℕ) (xs : List Spot) → AreAt ds ps xs → map (width_at ds) ps ≡ map (λ (a : Spot). Faults.width_declared ds a.bytes) xs
widths_at ds [] [] h = refl
widths_at ds [] (x ∷ xs) h = absurd h
widths_at ds (p ∷ ps) [] h = absurd h
widths_at ds (p ∷ ps) (x ∷ xs) h =
    let e : width_at ds p ≡ Faults.width_declared ds x.bytes = ap width_in h.0.there ∙ sym (ap width_in h.0.found) in
    ap (λ (n : ℕ). n ∷ map (width_at ds) ps) e ∙ ap (λ (l : List ℕ). Faults.width_declared ds x.bytes ∷ l) (widths_at ds ps xs h.1)

suits : (ds : List Declaration) (ss : List Statement) (d : Declaration) (v : Driver) → Drives ds ss d v → Suits ds (range_width d.range) v
suits ds ss d driver.Open h = tt
suits ds ss d (driver.Cell op xs) h =
    let ws : List ℕ = map (λ (a : Spot). Faults.width_declared ds a.bytes) (operands h.value) in (
      are_signals ds (places_of xs) (operands h.value) h.operands_at,
      ap (λ o. op_width o (map (width_at ds) (places_of xs))) h.operation_is ∙ ap (op_width (operation h.value)) (widths_at ds (places_of xs) (operands h.value) h.operands_at)
          ∙ some_width (op_width (operation h.value) ws) (range_width d.range) (range_some d.range) h.width,
    )
suits ds ss d (driver.Next w p) h = (
  record { declared = h.next_at.declared; there = h.next_at.there; fit = h.next_at.fit },
  ap width_in
      h.next_at.there ∙ sym (ap width_in h.next_at.found) ∙ sym h.next_width,
)

pub all_suit : (ds : List Declaration) (ss : List Statement) (vs : List Driver) → HasDrivers ds ss vs → AllSuit ds vs
all_suit ds ss vs h = λ (i : ℕ) (d : Declaration) (v : Driver) a b. suits ds ss d v (h.each i d v a b)

-- ---- widths in the net

partly_width : (i : ℕ) (gs : List Signal) (s : ℕ) → Netlist.width_in (slice_get (partly i gs) s) ≡ Netlist.width_in (slice_get gs s)
partly_width zero [] s = refl
partly_width zero (g ∷ gs) zero = refl
partly_width zero (g ∷ gs) (suc s) = partly_width zero gs s
partly_width (suc i) [] s = refl
partly_width (suc i) (g ∷ gs) zero = refl
partly_width (suc i) (g ∷ gs) (suc s) = partly_width i gs s

module _ (ds : List Declaration) (vs : List Driver) (order ns : List ℕ) (i : ℕ) (net : Netlist) (os : List (List ℕ × ℕ))
    (full : length vs ≡ length ds) (e : net ≡ record { signals = partly i (signals_at ds vs ns order); outputs = os }) where
  net_width : (s p : ℕ) (d : Declaration) → slice_get order s ≡ Some p → slice_get ds p ≡ Some d → width_of net s ≡ range_width d.range
  net_width s p d at there =
      let v : Driver = get_or vs p driver.Open in
      let got : slice_get vs p ≡ Some v = slice_get-get_or vs p driver.Open (omega (arith, slice_get_within ds p d there, full)) in
      ap (λ (n : Netlist). width_of n s) e ∙ partly_width i (signals_at ds vs ns order) s
      ∙ ap Netlist.width_in (slice_get-map (signal_at ds vs ns) order s ∙ ap (option_map (signal_at ds vs ns)) at)
      ∙ ap (λ (o : Option Declaration). (signal_in ns o (slice_get vs p)).width) there ∙ ap (λ (o : Option Driver). (signal_in ns (Some d) o).width) got

  module _ (n : AreNumbers ds order ns) where
    number_width : (p : ℕ) → IsSignalAt ds p → width_of net (slice_index ns p) ≡ width_at ds p
    number_width p h = net_width (slice_index ns p) p h.declared (n.back p h.declared h.there h.fit) h.there ∙ sym (ap width_in h.there)

    number_widths : (ps : List ℕ) → AreSignalsAt ds ps → map (λ (p : ℕ). width_of net (slice_index ns p)) ps ≡ map (width_at ds) ps
    number_widths [] h = refl
    number_widths (p ∷ ps) h =
        ap (λ (w : ℕ). w ∷ map (λ (p : ℕ). width_of net (slice_index ns p)) ps) (number_width p h.0) ∙ ap (λ (l : List ℕ). width_at ds p ∷ l) (number_widths ps h.1)

    suits_by : (w : ℕ) (v : Driver) → width_of net i ≡ w → Suits ds w v → SuitsIn net ns i v
    suits_by w driver.Open k h = tt
    suits_by w (driver.Cell op xs) k h = ap (op_width op) (number_widths (places_of xs) h.0) ∙ h.1 ∙ ap Some (sym k)
    suits_by w (driver.Next init p) k h = number_width p h.0 ∙ h.1 ∙ sym k

    pub suits_in : AllSuit ds vs → (p : ℕ) (d : Declaration) (v : Driver) → slice_get order i ≡ Some p → slice_get ds p ≡ Some d → slice_get vs p ≡ Some v → SuitsIn net ns i v
    suits_in h p d v at there got = suits_by (range_width d.range) v (net_width i p d at there) (h p d v there got)
