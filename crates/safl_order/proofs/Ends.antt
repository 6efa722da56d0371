-- A walk of all signals gives an order, and an order ranks the wires.
use Rattle.safl_order.proofs.Common.{AllDone, Frame, IsAcyclic, Mark, Sig, Walks}
use Rattle.std.proofs.Common.{◌≡◌, ℕ, zero, suc, ◌<◌, List, [], ◌∷◌, length, Option, Some, None, Bool, true, false, cond, ◌==◌, slice_get, refl, sym, ap, subst, ◌∙◌, arith}
use Rattle.std.proofs.lemmas.Bool.Decides.{nat_tests}
use Rattle.safl_net.specs.declared.cell.SigKind.TheVariants as SigKind
use Rattle.safl_net.specs.Netlist.{Netlist, Signal, Kind, Input, Reg, Wire, Cell, AllSet}
use Rattle.safl_net.specs.Making.{numbers, kind_in, cell_in, sort_of}
use Rattle.safl_order.specs.Order.{operands_of, operands_in, IsWire, ReadsSignal, Leads, IsLoop, IsOrder}

get_numbers : (xs : List Sig) (i s : ℕ) → slice_get (numbers xs) i ≡ Some s → slice_get xs i ≡ Some (record { 0 = s })
get_numbers [] i s e = absurd (cc)
get_numbers (x ∷ xs) zero s e = let q : x.0 ≡ s = cc in ap (λ (y : ℕ). Some (let g : Sig = record { 0 = y } in g)) q
get_numbers (x ∷ xs) (suc i) s e = get_numbers xs i s e

numbers_get : (xs : List Sig) (i s : ℕ) → slice_get xs i ≡ Some (record { 0 = s }) → slice_get (numbers xs) i ≡ Some s
numbers_get [] i s e = absurd (cc)
numbers_get (x ∷ xs) zero s e = let q : x ≡ record { 0 = s } = cc in ap (λ (y : Sig). Some y.0) q
numbers_get (x ∷ xs) (suc i) s e = numbers_get xs i s e

wire_in : (gs : List Signal) (s : ℕ) → sort_of (kind_in (slice_get gs s)) ≡ SigKind.Wire → s < length gs
wire_in [] s e = absurd (cc)
wire_in (g ∷ gs) zero e = omega arith
wire_in (g ∷ gs) (suc s) e = let h = wire_in gs s e in omega (arith, h)

pub order_done : (n : Netlist) (d : List Sig) (m : List Mark) (s : List Frame) → Walks n d m s → AllDone n m (length n.signals) → AllSet n → IsOrder n (numbers d)
order_done n d m s w all set = record {
  set = set;
  wires = λ i t e. w.wires i (record { 0 = t }) (get_numbers d i t e);
  all = λ t v. let q = all t (wire_in n.signals t v) v in (q.0, numbers_get d q.0 t (w.done_at t q.0 q.1));
  once = λ i j t e f.
      let a = w.marked i (record { 0 = t }) (get_numbers d i t e) in
      let b = w.marked j (record { 0 = t }) (get_numbers d j t f) in
      let q = sym a ∙ b in
      cc;
  before = λ i t k u e f v.
      let q = w.before i (record { 0 = t }) k u (get_numbers d i t e) f v in
      (q.0, q.1, numbers_get d q.0 u (w.done_at u q.0 q.2));
}

-- the place of a number in a list
abbrev place_in : List ℕ → ℕ → ℕ
place_in [] s = 0
place_in (x ∷ xs) s = cond (x == s) 0 (suc (place_in xs s))

place_at : (xs : List ℕ) (i s : ℕ) → slice_get xs i ≡ Some s → slice_get xs (place_in xs s) ≡ Some s
place_at [] i s e = absurd (cc)
place_at (x ∷ xs) zero s e = by (x == s) (let q : x ≡ s = cc in grind (arith, nat_tests))
  where
    by : (b : Bool) → b ≡ true → slice_get (x ∷ xs) (cond b 0 (suc (place_in xs s))) ≡ Some s
    by true q = e
    by false q = absurd (cc)
place_at (x ∷ xs) (suc i) s e = by (x == s) (grind (arith, nat_tests)) (place_at xs i s e)
  where
    by : (b : Bool) → (b ≡ true → x ≡ s) → slice_get xs (place_in xs s) ≡ Some s → slice_get (x ∷ xs) (cond b 0 (suc (place_in xs s))) ≡ Some s
    by true h r = ap Some (h refl)
    by false h r = r

wire_of : (n : Netlist) (s : ℕ) (g : Signal) (d : Option Cell) → slice_get n.signals s ≡ Some g → g.kind ≡ Wire d → IsWire n s
wire_of n s g d e f = ap sort_of (ap kind_in e ∙ f)

-- in an order each wire ranks by its place
pub order_acyclic : (n : Netlist) (ws : List ℕ) → IsOrder n ws → IsAcyclic n
order_acyclic n ws o = record {
  rank = place_in ws;
  rises = λ s t i g h c d e f k l m.
      let wire = wire_of n s g (Some c) e f in
      let a = o.all s wire in
      let read : slice_get (operands_of n s) i ≡ Some t = ap (λ x. slice_get (operands_in (cell_in x)) i) (ap kind_in e ∙ f) ∙ k in
      let b = o.before a.0 s i t a.1 read (wire_of n t h d l m) in
      let p = o.once (place_in ws s) a.0 s (place_at ws a.0 s a.1) a.1 in
      let q = o.once (place_in ws t) b.0 t (place_at ws b.0 t b.2) b.2 in
      let r = b.1 in
      omega (arith, p, q, r);
}

-- ---- a loop has no ranks

reads_cell : (n : Netlist) (a b : ℕ) → ReadsSignal n a b → (g : Signal) × (c : Cell) × (slice_get n.signals a ≡ Some g) × (g.kind ≡ Wire (Some c)) × ((i : ℕ) × (slice_get c.operands i ≡ Some b))
reads_cell n a b r = by (slice_get n.signals a) refl r.1
  where
    on : (g : Signal) (k : Kind) → slice_get n.signals a ≡ Some g → g.kind ≡ k → slice_get (operands_in (cell_in k)) r.0 ≡ Some b → (g : Signal) ×
        (c : Cell) × (slice_get n.signals a ≡ Some g) × (g.kind ≡ Wire (Some c)) × ((i : ℕ) × (slice_get c.operands i ≡ Some b))
    on g Input e f h = absurd (cc)
    on g (Reg init next) e f h = absurd (cc)
    on g (Wire None) e f h = absurd (cc)
    on g (Wire (Some c)) e f h = (g, c, e, f, (r.0, h))

    by : (o : Option Signal) → slice_get n.signals a ≡ o → slice_get (operands_in (cell_in (kind_in o))) r.0 ≡ Some b → (g : Signal) × (c : Cell) ×
        (slice_get n.signals a ≡ Some g) × (g.kind ≡ Wire (Some c)) × ((i : ℕ) × (slice_get c.operands i ≡ Some b))
    by None e h = absurd (cc)
    by (Some g) e h = on g g.kind e refl h

falls : (n : Netlist) (acyclic : IsAcyclic n) (a b u : ℕ) → ReadsSignal n a b → ReadsSignal n b u → acyclic.rank b < acyclic.rank a
falls n acyclic a b u r q =
    let x = reads_cell n a b r in
    let y = reads_cell n b u q in
    acyclic.rises a b x.4.0 x.0 y.0 x.1 (Some y.1) x.2 x.3 x.4.1 y.2 y.3

-- each wire of a path is above the end, where that reads on
path_falls : (n : Netlist) (acyclic : IsAcyclic n) (a : ℕ) (ws : List ℕ) (t u : ℕ) → Leads n (a ∷ ws) t → ReadsSignal n t u → acyclic.rank t < acyclic.rank a
path_falls n acyclic a [] t u l r = falls n acyclic a t u l r
path_falls n acyclic a (b ∷ []) t u l r =
    let p = path_falls n acyclic b [] t u l.1 r in
    let q = falls n acyclic a b t l.0 l.1 in
    omega (arith, p, q)
path_falls n acyclic a (b ∷ (c ∷ ws)) t u l r =
    let p = path_falls n acyclic b (c ∷ ws) t u l.1 r in
    let q = falls n acyclic a b c l.0 l.1.0 in
    omega (arith, p, q)

first_reads : (n : Netlist) (a : ℕ) (ws : List ℕ) (t : ℕ) → Leads n (a ∷ ws) t → (u : ℕ) × ReadsSignal n a u
first_reads n a [] t l = (t, l)
first_reads n a (b ∷ ws) t l = (b, l.0)

pub loop_cyclic : (n : Netlist) (ws : List ℕ) → IsLoop n ws → ¬ (IsAcyclic n)
loop_cyclic n ws l acyclic =
    let leads : Leads n (l.first ∷ l.rest) l.first = subst (λ x. Leads n x l.first) l.is l.leads in
    let r = first_reads n l.first l.rest l.first leads in
    let f = path_falls n acyclic l.first l.rest l.first r.0 leads r.1 in
    absurd (omega (arith, f))
