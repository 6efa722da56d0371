-- Kinds of signals.
use Rattle.safl_net.proofs.Common.{IsNetlist, Mux, Op, Sig, get_some, op_width}
use Rattle.std.proofs.Common.{[], Bool, Err, List, None, Ok, OnErr, OnOk, Option, Result, Some, ap, arith, cond, eq-eqb, inl, inr, length}
use Rattle.std.proofs.Common.{length-append, map, nat_le, refl, slice_get, slice_index, subst, suc, sym, take, true, zero, ℕ, ◌&&◌, ◌+◌, ◌<◌, ◌==◌}
use Rattle.std.proofs.Common.{◌||◌, ◌∙◌, ◌∷◌, ◌≡◌, ◌≤◌, ◌⊎◌}
use Rattle.std.proofs.lemmas.Option.{same_Some}
use Rattle.std.specs.Prelude.{option_map}
use Rattle.safl_net.specs.Names.{IsTidy, is_part, is_start, is_temp, one_wire, temp_name, wires}
use Rattle.safl_net.specs.Valuations.{kind_reset, reset_number}
use Rattle.safl_net.specs.Netlist.{AllSet, Cell, Input, IsSet, Kind, Netlist, Reg, Signal, Wire}
use Rattle.safl_net.specs.Making.{kind_at, kind_in, next_in, set_kind, sort_of, temporary, with_kind, with_signal}
use Rattle.safl_net.specs.declared.cell.SigKind.{SigKind}
use Rattle.safl_net.proofs.Keeping.{Was, was}

pub sort_wire_or_not : (k : Kind) → (sort_of k ≡ SigKind.Wire) ⊎ (¬ (sort_of k ≡ SigKind.Wire))
sort_wire_or_not Input = inr (λ e. cc)
sort_wire_or_not (Reg init next) = inr (λ e. cc)
sort_wire_or_not (Wire cell) = inl refl

pub start_part : (c : ℕ) → is_start c ≡ true → is_part c ≡ true
start_part c e = ap (λ (b : Bool). (b || (nat_le 48 c && nat_le c 57)) || (c == 36)) e

pub one_more : {E : Type 0} (n m : Netlist) (r : Result Sig E) (op : Op) (xs : List Sig) → OnOk r (m ≡ with_signal n (temporary n op xs)) → OnErr r (m ≡ n) →
    length m.signals ≤ length n.signals + 1
one_more n m (Ok s) op xs e f = let x = ap (λ (k : Netlist). length k.signals) e ∙ length-append n.signals (temporary n op xs ∷ []) in omega (arith, x)
one_more n m (Err e) op xs f g = let x = ap (λ (k : Netlist). length k.signals) g in omega (arith, x)

pub mux_width : (w : ℕ) → op_width Mux (1 ∷ w ∷ w ∷ []) ≡ Some w
mux_width w = ap (λ (b : Bool). cond b (Some w) None) (eq-eqb w w refl)

pub set_at : (n : Netlist) (s : ℕ) → AllSet n → s < length n.signals → IsSet (kind_at n s)
set_at n s all h = let g = get_some n.signals s h in subst IsSet (sym (ap kind_in g.1)) (all s g.0 g.1)

-- names stay, and so do the numbers of wires
pub wires_kept : (gs : List Signal) (s : ℕ) (k : Kind) (t : ℕ) → one_wire k ≡ one_wire (kind_in (slice_get gs s)) →
    wires (take t (set_kind gs s k)) ≡ wires (take t gs)
wires_kept [] s k t e = refl
wires_kept (g ∷ gs) zero k zero e = refl
wires_kept (g ∷ gs) zero k (suc t) e = ap (λ x. x + wires (take t gs)) e
wires_kept (g ∷ gs) (suc s) k zero e = refl
wires_kept (g ∷ gs) (suc s) k (suc t) e = ap (λ x. one_wire g.kind + x) (wires_kept gs s k t e)

pub tidy_kind : (n : Netlist) (s : ℕ) (k : Kind) → one_wire k ≡ one_wire (kind_at n s) → IsTidy n → IsTidy (with_kind n s k)
tidy_kind n s k e h = record {
  signals = λ t g at temp. by t g (was n.signals s t k g at) temp;
  outputs = h.outputs;
}
  where
    same : (t : ℕ) (g b : Signal) → slice_get n.signals t ≡ Some b → (((t ≡ s) × (g.kind ≡ k)) ⊎ (g.kind ≡ b.kind)) → one_wire g.kind ≡ one_wire b.kind
    same t g b at (inl q) = ap one_wire q.1 ∙ e ∙ ap (λ x. one_wire (kind_at n x)) (sym q.0) ∙ ap (λ x. one_wire (kind_in x)) at
    same t g b at (inr q) = ap one_wire q

    by : (t : ℕ) (g : Signal) → Was n.signals s t k g → is_temp g.name ≡ true →
        (one_wire g.kind ≡ 1) × (g.name ≡ temp_name (wires (take t (set_kind n.signals s k))))
    by t g w temp =
        let q = h.signals t w.before w.at (ap is_temp (sym w.name) ∙ temp) in
        (same t g w.before w.at w.kind ∙ q.0, w.name ∙ q.1 ∙ ap temp_name (sym (wires_kept n.signals s k t e)))

pub wire_at : (n : Netlist) (s : ℕ) (c : Cell) → kind_at n s ≡ Wire (Some c) → (g : Signal) × (slice_get n.signals s ≡ Some g) × (g.kind ≡ Wire (Some c))
wire_at n s c e = by (slice_get n.signals s) refl e
  where
    by : (o : Option Signal) → slice_get n.signals s ≡ o → kind_in o ≡ Wire (Some c) →
        (g : Signal) × (slice_get n.signals s ≡ Some g) × (g.kind ≡ Wire (Some c))
    by None q h = absurd (cc)
    by (Some g) q h = (g, q, h)

pub set_other : (gs : List Signal) (s : ℕ) (k : Kind) (t : ℕ) → (t ≡ s → ⊥) → slice_get (set_kind gs s k) t ≡ slice_get gs t
set_other [] s k t d = refl
set_other (g ∷ gs) zero k zero d = absurd (d refl)
set_other (g ∷ gs) zero k (suc t) d = refl
set_other (g ∷ gs) (suc s) k zero d = refl
set_other (g ∷ gs) (suc s) k (suc t) d = set_other gs s k t (λ e. d (ap suc e))

pub next_kind : (k : Kind) (t : ℕ) → Some t ≡ next_in k → (init : ℕ) × (k ≡ Reg init (Some t))
next_kind Input t e = absurd (cc)
next_kind (Reg init next) t e = (init, ap (Reg init) (sym e))
next_kind (Wire c) t e = absurd (cc)

pub output_known : (n : Netlist) (i s : ℕ) → IsNetlist n → i < length n.outputs → Some s ≡ option_map (λ x. x.1) (slice_get n.outputs i) → s < length n.signals
output_known n i s is within e =
    let o = get_some n.outputs i within in
    let same : s ≡ o.0.1 = same_Some _ _ (e ∙ ap (option_map (λ x. x.1)) o.1) in
    let known = (is.outputs i o.0 o.1).1 in
    omega (arith, same, known)

-- the state at reset is of the widths
pub reset_at : (gs : List Signal) (s : ℕ) → slice_index (map (λ (g : Signal). kind_reset g.kind) gs) s ≡ reset_number (slice_get gs s)
reset_at [] s = refl
reset_at (g ∷ gs) zero = refl
reset_at (g ∷ gs) (suc s) = reset_at gs s
