-- Signals that are connected in the order of their wires.
use Rattle.safl_aig.proofs.Common.{IsNetlist, Lit, Pins, Sig, lower_or_last, summed, summed_more}
use Rattle.std.proofs.Common.{◌≡◌, ◌≢◌, ◌⊎◌, inl, inr, ℕ, zero, suc, ◌+◌, ◌*◌, ◌<◌, ◌≤◌, List, [], ◌∷◌, map, length, cond, Option, Some, None}
use Rattle.std.proofs.Common.{slice_get, slice_index, slice_set, refl, sym, ap, ◌∙◌, subst, arith}
use Rattle.std.proofs.lemmas.List.{length-set}
use Rattle.std.proofs.lemmas.List.Elements.{All-nil, All-cons}
use Rattle.std.proofs.lemmas.Option.{slice_get_within}
use Rattle.safl_net.specs.declared.cell.SigKind.{SigKind}
use Rattle.safl_net.specs.Netlist.{Netlist, Signal, Kind, Input, Reg, Wire, Cell, width_of, is_input, is_register}
use Rattle.safl_net.specs.Valuations.{Valuation, Fits, Holds, cell_word, signal_word}
use Rattle.safl_net.specs.Making.{kind_at, kind_in, cell_in, sort_of, signal_widths, numbers}
use Rattle.safl_net.proofs.SignalKinds.{sort_wire_or_not}
use Rattle.safl_order.specs.Order.{operands_of, operands_in, IsWire, IsOrder}
use Rattle.safl_order.proofs.Moves.{operand_in, wire_in_net}
use Rattle.safl_aiger.specs.Literals.{Assignment, shown}
use Rattle.safl_bits.specs.Gates.{Gates, IsLiteral, AreLiterals, HasRoom, Grows, count}
use Rattle.safl_bits.specs.Gates.{Holds as Shows}
use Rattle.safl_bits.proofs.Growing.{holds_before}
use Rattle.safl_bits.proofs.Places.{literals_kept}
use Rattle.safl_aig.specs.Weights.{op_weight, signal_weight, kind_weight, weight}
use Rattle.safl_aig.specs.Tables.{lits_at, Ready, Agrees, variable_lits, width_if, bits_before, input_count, first_and, kind_lits, source_lits, CellMade, RoomFor, GrowsFor}
use Rattle.safl_aig.specs.Wiring.{OperandsReady, SourcesAgree, WireMade, Connected}
use Rattle.safl_aig.proofs.Nets.{cell_at}
use Rattle.safl_aig.proofs.Cells.{sig}
use Rattle.safl_aig.proofs.Sources.{variable_long, bits_step}
use Rattle.safl_aig.proofs.Ordering.{ordered_weight, ordered_light, get_index}

-- ---- wires and their cells

pub wire_kind : (k : Kind) (d : Cell) → cell_in k ≡ Some d → k ≡ Wire (Some d)
wire_kind Input d e = absurd (cc)
wire_kind (Reg init next) d e = absurd (cc)
wire_kind (Wire None) d e = absurd (cc)
wire_kind (Wire (Some c)) d e = let q : c ≡ d = cc in ap (λ x. Wire (Some x)) q

pub weight_is : (n : Netlist) (s : ℕ) (d : Cell) → cell_in (kind_at n s) ≡ Some d → signal_weight n s ≡ op_weight d.op (width_of n s) (signal_widths n d.operands)
weight_is n s d e = ap (kind_weight n (width_of n s)) (wire_kind (kind_at n s) d e)

wire_number : (n : Netlist) (state : ℕ → ℕ) (v : Valuation) (s : ℕ) (d : Cell) → Fits n state v → kind_at n s ≡ Wire (Some d) → slice_index v s ≡
    (cell_word d.op (map (signal_word n v) d.operands)).bits
wire_number n state v s d f e = by (slice_get n.signals s) refl e
  where
    by : (o : Option Signal) → slice_get n.signals s ≡ o → kind_in o ≡ Wire (Some d) → slice_index v s ≡ (cell_word d.op (map (signal_word n v) d.operands)).bits
    by None q h = absurd (cc)
    by (Some g) q h = subst (λ (k : Kind). Holds n v (state s) (slice_index v s) k) h (f.each s g q).1

module _ (n : Netlist) (s : ℕ) (d : Cell) (made : IsNetlist n) (e : cell_in (kind_at n s) ≡ Some d) where
  pub room_for : (g : Gates) → HasRoom g (16 * signal_weight n s) → RoomFor n g d
  room_for g h = (width_of n s, cell_at n made s d e, subst (λ (k : ℕ). HasRoom g (16 * k)) (weight_is n s d e) h)

  pub wire_grows : (g new : Gates) → GrowsFor n g new d → Grows g new (16 * signal_weight n s)
  wire_grows g new h = subst (λ (k : ℕ). Grows g new (16 * k)) (sym (weight_is n s d e)) (h (width_of n s) (cell_at n made s d e))

  pub wire_made : (new : Gates) (table : List Pins) (r : List Lit) → CellMade n new table d r → WireMade n new table s r
  wire_made new table r h = record {
    fits = h.fits;
    long = h.long (width_of n s) (cell_at n made s d e);
    value = λ m state v k f a. h.value m (slice_index v) k (λ i t q. a i t (ap (λ (c : Option Cell). slice_get (operands_in c) i) e ∙ q)) ∙ sym
        (wire_number n state v s d f (wire_kind (kind_at n s) d e));
  }

pub wire_or_not : (n : Netlist) (s : ℕ) → IsWire n s ⊎ (¬ (IsWire n s))
wire_or_not n s = sort_wire_or_not (kind_at n s)

-- ---- inputs and registers

one_light : (n : Netlist) (s : ℕ) → width_if is_input n s + width_if is_register n s ≤ signal_weight n s
one_light n s = by (kind_at n s)
  where
    by : (k : Kind) → cond (is_input k) (width_of n s) 0 + cond (is_register k) (width_of n s) 0 ≤ kind_weight n (width_of n s) k
    by Input = omega arith
    by (Reg init next) = omega arith
    by (Wire None) = omega arith
    by (Wire (Some c)) = omega arith

all_light : (n : Netlist) (k : ℕ) → bits_before is_input n k + bits_before is_register n k ≤ summed (signal_weight n) k
all_light n zero = omega arith
all_light n (suc k) = let a = all_light n k in let b = one_light n k in omega (arith, a, b)

-- the variables that are given are no more than the weight
pub first_light : (n : Netlist) → first_and n ≤ 1 + weight n
first_light n = let a = all_light n (length n.signals) in omega (arith, a)

variables_fit : (g : Gates) (first k : ℕ) → first + k ≤ count g → AreLiterals g (variable_lits first k)
variables_fit g first zero h = All-nil (IsLiteral g)
variables_fit g first (suc k) h = All-cons (IsLiteral g) (record { 0 = 2 * first }) (variable_lits (suc first) k) (omega (arith, h)) (variables_fit g (suc first) k (omega (arith, h)))

pub source_ready : (n : Netlist) (g : Gates) (table : List Pins) (s : ℕ) → g.first ≡ first_and n → s < length n.signals → ¬ (IsWire n s) → lits_at table s ≡ source_lits n s → Ready n g table s
source_ready n g table s f l w e = by (kind_at n s) refl
  where
    fit : (k : Kind) → kind_at n s ≡ k → (sort_of k ≡ SigKind.Wire → ⊥) → (length (kind_lits n s k) ≡ width_of n s) × AreLiterals g (kind_lits n s k)
    fit Input q h = (
      variable_long _ (width_of n s),
      variables_fit g (1 + bits_before is_input n s) (width_of n s)
          (let b = bits_step is_input n s l in let z : width_if is_input n s ≡ width_of n s = ap (λ k. cond (is_input k) (width_of n s) 0) q in omega (arith, b, z, f)),
    )
    fit (Reg init next) q h = (
      variable_long _ (width_of n s),
      variables_fit g (1 + input_count n + bits_before is_register n s) (width_of n s)
          (let b = bits_step is_register n s l in let z : width_if is_register n s ≡ width_of n s = ap (λ k. cond (is_register k) (width_of n s) 0) q
          in omega (arith, b, z, f)),
    )
    fit (Wire cell) q h = absurd (h refl)

    by : (k : Kind) → kind_at n s ≡ k → Ready n g table s
    by k q =
        let a = fit k q (λ z. w (ap sort_of q ∙ z)) in
        let r : lits_at table s ≡ kind_lits n s k = e ∙ ap (kind_lits n s) q in
        record { long = ap length r ∙ a.0; fits = subst (λ (ls : List Lit). AreLiterals g ls) (sym r) a.1 }

-- ---- a table that is written

set_here : (table : List Pins) (p : Pins) (s : ℕ) → s < length table → lits_at (slice_set table s p) s ≡ p.bits.items
set_here [] p s h = absurd (omega (arith, h))
set_here (q ∷ table) p zero h = refl
set_here (q ∷ table) p (suc s) h = set_here table p s (omega (arith, h))

set_other : (table : List Pins) (p : Pins) (s t : ℕ) → t ≢ s → lits_at (slice_set table s p) t ≡ lits_at table t
set_other [] p s t h = refl
set_other (q ∷ table) p zero zero h = absurd (h refl)
set_other (q ∷ table) p zero (suc t) h = refl
set_other (q ∷ table) p (suc s) zero h = refl
set_other (q ∷ table) p (suc s) (suc t) h = set_other table p s t (λ e. h (ap suc e))

ready_moves : (n : Netlist) (g new : Gates) (most : ℕ) (old table : List Pins) (t : ℕ) → Grows g new most → lits_at table t ≡ lits_at old t → Ready n g old t → Ready n new table t
ready_moves n g new most old table t b e h = record {
  long = ap length e ∙ h.long;
  fits = subst (λ (ls : List Lit). AreLiterals new ls) (sym e) (literals_kept (lits_at old t) b h.fits);
}

-- ---- the wires in their order

-- the first wires are connected
pub record Underway (n : Netlist) (ws : List ℕ) (g : Gates) (table : List Pins) (i : ℕ) : Type 0 where
  pub first : g.first ≡ first_and n
  pub few : length g.ands ≤ 16 * ordered_weight n ws i
  pub long : length table ≡ length n.signals
  pub sources : (s : ℕ) → s < length n.signals → ¬ (IsWire n s) → lits_at table s ≡ source_lits n s
  pub ready : (k s : ℕ) → k < i → slice_get ws k ≡ Some s → Ready n g table s
  pub agrees : (m : Assignment) (state : ℕ → ℕ) (v : Valuation) → Shows g m → Fits n state v → SourcesAgree n m v table → (k s : ℕ) → k < i → slice_get ws k ≡ Some s → Agrees m (slice_index v) table s

pub underway_start : (n : Netlist) (ws : List ℕ) (g : Gates) (table : List Pins) → g.first ≡ first_and n → g.ands ≡ [] → length table ≡ length
    n.signals → ((s : ℕ) → s < length n.signals → lits_at table s ≡ source_lits n s) → Underway n ws g table 0
underway_start n ws g table f e l h = record {
  first = f;
  few = (let z = ap length e in omega (arith, z));
  long = l;
  sources = λ s b w. h s b;
  ready = λ k s b q. absurd (omega (arith, b));
  agrees = λ m state v o p a k s b q. absurd (omega (arith, b));
}

module _ (n : Netlist) (ws : List ℕ) (g : Gates) (table : List Pins) (i s : ℕ) (made : IsNetlist n) (order : IsOrder n ws) (here : slice_get ws i ≡ Some s) (old : Underway n ws g table i) where
  operand_ready : (k t : ℕ) → slice_get (operands_of n s) k ≡ Some t → Ready n g table t
  operand_ready k t e = elim (wire_or_not n t) [
    | inl w ↦ let b = order.before i s k t here e w in old.ready b.0 t b.1 b.2
    | inr w ↦ let l = operand_in n s k t made e in source_ready n g table t old.first l w (old.sources t l w)
  ]

  pub operands_ready : OperandsReady n g table s
  operands_ready k t e = operand_ready k t e

  pub wire_room : i < length ws → weight n ≤ 1000000 → HasRoom g (16 * signal_weight n s)
  wire_room l h =
      let e = ordered_light n ws (i + 1) (omega (arith, l)) (λ j t q. wire_in_net n t (order.wires j t q)) order.once in
      let f = summed_more (λ j. signal_weight n (slice_index ws j)) i in
      let q : slice_index ws i ≡ s = let z = get_index ws i l in cc in
      let r : signal_weight n (slice_index ws i) ≡ signal_weight n s = ap (signal_weight n) q in
      let a = first_light n in
      omega (arith, e, f, r, a, h, old.first, old.few)

  pub underway_step : (new : Gates) (p : Pins) → i < length ws → Grows g new (16 * signal_weight n s) → WireMade n new table s p.bits.items → Underway n ws new (slice_set table s p) (i + 1)
  underway_step new p l b w =
      let is_wire = order.wires i s here in
      let inside : s < length table = let k = wire_in_net n s is_wire in omega (arith, k, old.long) in
      let apart : (t : ℕ) → ¬ (IsWire n t) → t ≢ s = λ t h q. h (subst (λ x. IsWire n x) (sym q) is_wire) in
      let before : (k t : ℕ) → k < i → slice_get ws k ≡ Some t → t ≢ s = λ k t h e q. let z = order.once k i s (e ∙ ap (λ x. Some x) q) here in omega (arith, z, h) in
      let same : (k t : ℕ) → k ≡ i → slice_get ws k ≡ Some t → t ≡ s = λ k t q e. let z : Some t ≡ Some s = sym e ∙ ap (slice_get ws) q ∙ here in cc in
      let sources_old : (m : Assignment) (v : Valuation) → SourcesAgree n m v (slice_set table s p) → SourcesAgree n m v table = λ m v a t h k. sym
      (ap (shown m) (set_other table p s t (apart t k))) ∙ a t h k in
      record {
        first = b.first ∙ old.first;
        few =
            let f = summed_more (λ j. signal_weight n (slice_index ws j)) i in
            let q : slice_index ws i ≡ s = let z = get_index ws i l in cc in
            let r : signal_weight n (slice_index ws i) ≡ signal_weight n s = ap (signal_weight n) q in
            omega (arith, f, r, old.few, b.few);
        long = length-set table s p ∙ old.long;
        sources = λ t h k. set_other table p s t (apart t k) ∙ old.sources t h k;
        ready = λ k t h e. elim (lower_or_last k i h) [
          | inl u ↦ ready_moves n g new (16 * signal_weight n s) table (slice_set table s p) t b (set_other table p s t (before k t u e)) (old.ready k t u e)
          | inr u ↦
              let q = same k t u e in
              let r : lits_at (slice_set table s p) t ≡ p.bits.items = ap (lits_at (slice_set table s p)) q ∙ set_here table p s inside in
              record { long = ap length r ∙ w.long ∙ ap (width_of n) (sym q); fits = subst (λ (ls : List Lit). AreLiterals new ls) (sym r) w.fits }
        ];
        agrees = λ m state v o f a k t h e.
            let o' = holds_before b o in
            let a' = sources_old m v a in
            elim (lower_or_last k i h) [
              | inl u ↦ ap (shown m) (set_other table p s t (before k t u e)) ∙ old.agrees m state v o' f a' k t u e
              | inr u ↦
                  let q = same k t u e in
                  let r : lits_at (slice_set table s p) t ≡ p.bits.items = ap (lits_at (slice_set table s p)) q ∙ set_here table p s inside in
                  ap (shown m) r
                  ∙ w.value m state v o f (λ j x y. elim (wire_or_not n x) [
                    | inl z ↦ let c = order.before i s j x here y z in old.agrees m state v o' f a' c.0 x c.1 c.2
                    | inr z ↦ a' x (operand_in n s j x made y) z
                  ])
                  ∙ ap (slice_index v) (sym q)
            ];
      }

pub underway_end : (n : Netlist) (ws : List ℕ) (g : Gates) (table : List Pins) (i : ℕ) → IsOrder n ws → i ≡ length ws → Underway n ws g table i → Connected n g table
underway_end n ws g table i order e h = record {
  first = h.first;
  few = (let z = ordered_light n ws i (omega (arith, e)) (λ j t q. wire_in_net n t (order.wires j t q)) order.once in let f = h.few in omega (arith, z, f));
  long = h.long;
  ready = λ s l. elim (wire_or_not n s) [
    | inl w ↦ let a = order.all s w in h.ready a.0 s (subst (λ k. a.0 < k) (sym e) (slice_get_within ws a.0 s a.1)) a.1
    | inr w ↦ source_ready n g table s h.first l w (h.sources s l w)
  ];
  sources = h.sources;
  agrees = λ m state v o f a s l. elim (wire_or_not n s) [
    | inl w ↦ let b = order.all s w in h.agrees m state v o f a b.0 s (subst (λ k. b.0 < k) (sym e) (slice_get_within ws b.0 s b.1)) b.1
    | inr w ↦ a s l w
  ];
}

pub numbers_at : (xs : List Sig) (i : ℕ) → i < length xs → slice_get (numbers xs) i ≡ Some (sig xs i).0
numbers_at [] i h = absurd (omega (arith, h))
numbers_at (x ∷ xs) zero h = refl
numbers_at (x ∷ xs) (suc i) h = numbers_at xs i (omega (arith, h))
