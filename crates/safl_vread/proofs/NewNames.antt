-- Names of signals and outputs that are new.
use Rattle.safl_vread.proofs.Common.{Driver, IsOrder, Netlist, Signal, Sort, declared_place, names, place_at, signals_of}
use Rattle.std.proofs.Common.{◌≡◌, ◌≢◌, ℕ, zero, suc, ◌+◌, ◌<◌, ◌≤◌, List, [], ◌∷◌, ◌++◌, length, get_or, map, take, Bool, true, false, cond, ◌||◌}
use Rattle.std.proofs.Common.{◌&&◌, bytes_eq, Option, Some, refl, sym, ap, subst, ◌∙◌, arith, slice_get}
use Rattle.std.proofs.lemmas.Option.{slice_get-get_or, slice_get_within}
use Rattle.std.proofs.lemmas.Bool.{or_right}
use Rattle.safl_net.specs.Names.{is_good, named_signal, named_output, has_name}
use Rattle.safl_verilog.specs.declared.token.Sort.TheVariants as sorts
use Rattle.safl_verilog.specs.Files.{Declaration}
use Rattle.safl_verilog.specs.Faults.{is_input, is_output, is_reg, is_wire, is_signal}
use Rattle.safl_verilog.proofs.Distinct.{Distinct, other_name, each_at}
use Rattle.safl_vread.specs.declared.driver.Driver.TheVariants as driver
use Rattle.safl_vread.specs.Nets.{GoodNames, opened, signal_in, signal_at, signals_at, shown_with, output_with}
use Rattle.safl_vread.proofs.SignalNames.{are_signals}
use Rattle.safl_vread.proofs.Orders.{placed}
use Rattle.safl_vread.proofs.Numberings.{order_apart}

unnamed : (F : ℕ → Signal) (ps : List ℕ) (name : List ℕ) → ((j p : ℕ) → slice_get ps j ≡ Some p → name ≢ (F p).name) →
    (named_signal (map F ps) name ≡ false) × (named_signal (map opened (map F ps)) name ≡ false)
unnamed F [] name h = (refl, refl)
unnamed F (p ∷ ps) name h =
    let a = other_name name (F p).name (h 0 p refl) in
    let b = unnamed F ps name (λ j q e. h (suc j) q e) in
    (ap (λ c. c || named_signal (map F ps) name) a ∙ b.0, ap (λ c. c || named_signal (map opened (map F ps)) name) a ∙ b.1)

taken_at : (i : ℕ) (order : List ℕ) (j p : ℕ) → slice_get (take i order) j ≡ Some p → (j < i) × (slice_get order j ≡ Some p)
taken_at zero order j p h = absurd cc
taken_at (suc i) [] j p h = absurd cc
taken_at (suc i) (q ∷ order) zero p h = (omega arith, h)
taken_at (suc i) (q ∷ order) (suc j) p h = let k = taken_at i order j p h in (omega (arith, k.0), k.1)

module _ (ds : List Declaration) (a : Distinct (names ds)) where
  same_place : (p q : ℕ) (d e : Declaration) → slice_get ds p ≡ Some d → slice_get ds q ≡ Some e → d.name.bytes ≡ e.name.bytes → p ≡ q
  same_place p q d e x y k = sym (place_at ds a p d x) ∙ ap (declared_place ds) k ∙ place_at ds a q e y

  -- ---- names of outputs

  pub output_unnamed : (ns : List ℕ) (os : List (List ℕ × ℕ)) (d e : Declaration) (v : Driver) (i k : ℕ) → slice_get ds i ≡ Some d → slice_get ds k ≡
      Some e → i + 1 ≤ k → named_output os e.name.bytes ≡ false → named_output (os ++ output_with ns d v) e.name.bytes ≡ false
  output_unnamed ns os d e v i k x y l h = joined os h (by (is_output d.sort))
    where
      joined : (os : List (List ℕ × ℕ)) → named_output os e.name.bytes ≡ false → named_output (output_with ns d v) e.name.bytes ≡ false → named_output (os ++ output_with ns d v) e.name.bytes ≡ false
      joined [] h m = m
      joined (o ∷ os) h m = go (bytes_eq e.name.bytes o.0) h (λ n. joined os n m)
        where
          go : (b : Bool) → (b || named_output os e.name.bytes) ≡ false →
              (named_output os e.name.bytes ≡ false → named_output (os ++ output_with ns d v) e.name.bytes ≡ false) →
              (b || named_output (os ++ output_with ns d v) e.name.bytes) ≡ false
          go true h n = absurd cc
          go false h n = n h

      by : (b : Bool) → named_output (cond b ((d.name.bytes, shown_with ns v) ∷ []) []) e.name.bytes ≡ false
      by true = ap (λ c. c || false) (other_name e.name.bytes d.name.bytes (λ q. omega (arith, l, same_place i k d e x y (sym q))))
      by false = refl

  pub good_output : GoodNames ds → (p : ℕ) (d : Declaration) → slice_get ds p ≡ Some d → is_output d.sort ≡ true → is_good d.name.bytes ≡ true
  good_output h p d there out = h p d there (or_right (is_signal d) (is_output d.sort) out)

  module _ (order : List ℕ) (o : IsOrder ds order) where
    pub order_signal : (i p : ℕ) (d : Declaration) → slice_get order i ≡ Some p → slice_get ds p ≡ Some d → is_signal d ≡ true
    order_signal i p d at there =
        let k = placed (slice_get ds) order (signals_of ds) o i p at in
        let same : k.item ≡ d = let e : Some k.item ≡ Some d = sym k.there ∙ there in cc in
        subst (λ (x : Declaration). is_signal x ≡ true) same (each_at (λ (x : Declaration). is_signal x ≡ true) (signals_of ds) i k.item (are_signals ds) k.at)

    pub good_signal : GoodNames ds → (i p : ℕ) (d : Declaration) → slice_get order i ≡ Some p → slice_get ds p ≡ Some d → is_good d.name.bytes ≡ true
    good_signal h i p d at there = h p d there (ap (λ b. b || is_output d.sort) (order_signal i p d at there))

    module _ (vs : List Driver) (ns : List ℕ) (full : length vs ≡ length ds) where
      name_there : (p : ℕ) (d : Declaration) → slice_get ds p ≡ Some d → (signal_at ds vs ns p).name ≡ d.name.bytes
      name_there p d there =
          let got : slice_get vs p ≡ Some (get_or vs p driver.Open) = slice_get-get_or vs p driver.Open (omega (arith, slice_get_within ds p d there, full)) in
          ap (λ (x : Option Declaration). (signal_in ns x (slice_get vs p)).name) there ∙ ap (λ (x : Option Driver). (signal_in ns (Some d) x).name) got

      -- the name at a place of the order is none of those before
      pub signal_new : (i p : ℕ) (d : Declaration) → slice_get order i ≡ Some p → slice_get ds p ≡ Some d → named_signal (map opened (signals_at ds vs ns (take i order))) d.name.bytes ≡ false
      signal_new i p d at there = (unnamed (signal_at ds vs ns) (take i order) d.name.bytes (λ j q e (n : d.name.bytes ≡ (signal_at ds vs ns q).name).
          let t = taken_at i order j q e in
          let k = placed (slice_get ds) order (signals_of ds) o j q t.1 in
          let same : p ≡ q = same_place p q d k.item there k.there (n ∙ name_there q k.item k.there) in
          let z : i ≡ j = order_apart ds order a o i j q (at ∙ ap Some same) t.1 in
          omega (arith, z, t.0))).1

      pub signal_free : (net : Netlist) (i p : ℕ) (d : Declaration) → net ≡ record
          { signals = map opened (signals_at ds vs ns (take i order)); outputs = [] } → slice_get order i ≡ Some p → slice_get ds p ≡ Some d →
          has_name net d.name.bytes ≡ false
      signal_free net i p d e at there = ap (λ (n : Netlist). has_name n d.name.bytes) e ∙ ap (λ b. b || false) (signal_new i p d at there)

      -- the name of an output is that of no signal
      pub output_new : (p : ℕ) (d : Declaration) → slice_get ds p ≡ Some d → is_output d.sort ≡ true → named_signal (signals_at ds vs ns order) d.name.bytes ≡ false
      output_new p d there out = (unnamed (signal_at ds vs ns) order d.name.bytes (λ j q e (n : d.name.bytes ≡ (signal_at ds vs ns q).name).
          let k = placed (slice_get ds) order (signals_of ds) o j q e in
          let same : p ≡ q = same_place p q d k.item there k.there (n ∙ name_there q k.item k.there) in
          let one : d ≡ k.item = let z : Some d ≡ Some k.item = sym there ∙ ap (slice_get ds) same ∙ k.there in cc in
          no_both d.sort _ _ out (subst (λ (x : Declaration). is_signal x ≡ true) (sym one) (order_signal j q k.item e k.there)))).0
        where
          no_both : (s : Sort) (c r : Bool) → is_output s ≡ true → (((is_input s && c) && r) || is_reg s || is_wire s) ≡ true → ⊥
          no_both sorts.Input c r h k = cc
          no_both sorts.Output c r h k = cc
          no_both sorts.Reg c r h k = cc
          no_both sorts.Wire c r h k = cc

pub output_free : (now old : Netlist) (name : List ℕ) → now.signals ≡ old.signals → named_signal old.signals name ≡ false → named_output now.outputs name ≡ false → has_name now name ≡ false
output_free now old name e a b = ap (λ (gs : List Signal). named_signal gs name || named_output now.outputs name) e ∙ ap (λ c. c || named_output now.outputs name) a ∙ b
