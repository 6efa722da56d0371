-- What the makers keep of a netlist.
use Rattle.safl_net.proofs.Common.{CellFits, HasWord, IsNetlist, KindFits, Op, Sig, SignalFits, op_width}
use Rattle.std.proofs.Common.{◌≡◌, ℕ, zero, suc, ◌<◌, ◌≤◌, List, [], ◌∷◌, length, length-append, All, Some, None, true, false, ◌⊎◌, inl, inr}
use Rattle.std.proofs.Common.{slice_get, slice_index_or, refl, sym, ap, subst, ◌∙◌, arith}
use Rattle.safl_word.proofs.Lists.{get_in_front, get_pushed}
use Rattle.safl_net.specs.Netlist.{Netlist, Signal, Kind, Input, Reg, Wire, Cell, width_in, width_of}
use Rattle.safl_net.specs.Names.{is_good, has_name}
use Rattle.safl_net.specs.Making.{with_signal, with_output, with_kind, set_kind, signal_widths, numbers, cell_on, width_on}
use Rattle.safl_net.proofs.Naming.{unnamed}

-- the first net's signals are in the second, with their widths
pub record Above (n m : Netlist) : Type 0 where
  pub more : length n.signals ≤ length m.signals
  pub same : (s : ℕ) → s < length n.signals → width_of m s ≡ width_of n s

pub widths_above : {n m : Netlist} → Above n m → (xs : List ℕ) → All (λ s. s < length n.signals) xs → signal_widths m xs ≡ signal_widths n xs
widths_above a [] k = refl
widths_above {n} {m} a (x ∷ xs) k =
    let e = a.same x (k 0 0 (omega arith)) in
    let f = widths_above a xs (λ i d h. k (suc i) d (omega (arith, h))) in
    ap (λ w. w ∷ signal_widths m xs) e ∙ ap (λ ws. width_of n x ∷ ws) f

pub cell_above : {n m : Netlist} → Above n m → (w : ℕ) (c : Cell) → CellFits n w c → CellFits m w c
cell_above a w c f = record {
  known = λ k d h. let q = f.known k d h in let r = a.more in omega (arith, q, r);
  gives = ap (λ ws. op_width c.op ws) (widths_above a c.operands f.known) ∙ f.gives;
  word = f.word;
}

numbers_at : (xs : List Sig) (i d : ℕ) → slice_index_or (numbers xs) i d ≡ (slice_index_or xs i (record { 0 = d })).0
numbers_at [] i d = refl
numbers_at (x ∷ xs) zero d = refl
numbers_at (x ∷ xs) (suc i) d = numbers_at xs i d

pub numbers_length : (xs : List Sig) → length (numbers xs) ≡ length xs
numbers_length [] = refl
numbers_length (x ∷ xs) = ap suc (numbers_length xs)

pub numbers_known : (n : Netlist) (xs : List Sig) → All (λ s. s.0 < length n.signals) xs → All (λ s. s < length n.signals) (numbers xs)
numbers_known n xs k = λ i d h.
    let q = k i (record { 0 = d }) (let e = numbers_length xs in omega (arith, e, h)) in
    let e = numbers_at xs i d in
    omega (arith, q, e)

pub cell_fits : (n : Netlist) (op : Op) (xs : List Sig) (w : ℕ) → All (λ s. s.0 < length n.signals) xs → width_on n op xs ≡ Some w → HasWord op → CellFits n w (cell_on op xs)
cell_fits n op xs w k e h = record { known = numbers_known n xs k; gives = e; word = h }

pub kind_above : {n m : Netlist} → Above n m → (w : ℕ) (k : Kind) → KindFits n w k → KindFits m w k
kind_above a w Input f = tt
kind_above a w (Reg init None) f = f
kind_above a w (Reg init (Some s)) f = (f.0, (let r = a.more in let q = f.1 in omega (arith, q, r)), a.same s f.1 ∙ f.2)
kind_above a w (Wire None) f = tt
kind_above a w (Wire (Some c)) f = cell_above a w c f

pub signal_above : {n m : Netlist} → Above n m → (g : Signal) → SignalFits n g → SignalFits m g
signal_above a g f = record { good = f.good; some = f.some; most = f.most; kind = kind_above a g.width g.kind f.kind }

pub above_pushed : (n : Netlist) (g : Signal) → Above n (with_signal n g)
above_pushed n g = record {
  more = let e = length-append n.signals (g ∷ []) in omega (arith, e);
  same = λ s h. ap width_in (get_in_front n.signals (g ∷ []) s h);
}

pub above_output : (n : Netlist) (name : List ℕ) (s : ℕ) → Above n (with_output n name s)
above_output n name s = record { more = omega arith; same = λ i h. refl }

pub set_length : (gs : List Signal) (s : ℕ) (k : Kind) → length (set_kind gs s k) ≡ length gs
set_length [] s k = refl
set_length (g ∷ gs) zero k = refl
set_length (g ∷ gs) (suc s) k = ap suc (set_length gs s k)

pub set_width : (gs : List Signal) (s : ℕ) (k : Kind) (i : ℕ) → width_in (slice_get (set_kind gs s k) i) ≡ width_in (slice_get gs i)
set_width [] s k i = refl
set_width (g ∷ gs) zero k zero = refl
set_width (g ∷ gs) zero k (suc i) = refl
set_width (g ∷ gs) (suc s) k zero = refl
set_width (g ∷ gs) (suc s) k (suc i) = set_width gs s k i

pub above_set : (n : Netlist) (s : ℕ) (k : Kind) → Above n (with_kind n s k)
above_set n s k = record {
  more = let e = set_length n.signals s k in omega (arith, e);
  same = λ i h. set_width n.signals s k i;
}

-- one more signal
pub push_kept : (n : Netlist) (g : Signal) → IsNetlist n → length n.signals < 4294967295 → has_name n g.name ≡ false → SignalFits n g → IsNetlist (with_signal n g)
push_kept n g w room new fits =
    let u = unnamed n g.name new in
    let a = above_pushed n g in
    record {
      few = let e = length-append n.signals (g ∷ []) in omega (arith, e);
      few_outputs = w.few_outputs;
      signals = λ s h e. elim (get_pushed n.signals g h s e) [
        | inl q ↦ signal_above a h (w.signals s h q)
        | inr q ↦ subst (λ k. SignalFits (with_signal n g) k) (sym q.1) (signal_above a g fits)
      ];
      outputs = λ i o e. let f = w.outputs i o e in (f.0, (let r = a.more in let q = f.1 in omega (arith, q, r)));
      apart = λ s t h k e f d. elim (get_pushed n.signals g h s e) [
        | inl q ↦ elim (get_pushed n.signals g k t f) [
          | inl r ↦ w.apart s t h k q r d
          | inr r ↦ absurd (u.signals s h q (sym (d ∙ ap (λ (x : Signal). x.name) r.1)))
        ]
        | inr q ↦ elim (get_pushed n.signals g k t f) [
          | inl r ↦ absurd (u.signals t k r (sym (ap (λ (x : Signal). x.name) q.1) ∙ d))
          | inr r ↦ q.0 ∙ sym r.0
        ]
      ];
      outputs_apart = w.outputs_apart;
      between = λ s i h o e f d. elim (get_pushed n.signals g h s e) [
        | inl q ↦ w.between s i h o q f d
        | inr q ↦ u.outputs i o f (sym (ap (λ (x : Signal). x.name) q.1) ∙ d)
      ];
    }

-- one more output
pub output_kept : (n : Netlist) (name : List ℕ) (t : ℕ) → IsNetlist n → length n.outputs < 4294967295 → is_good name ≡ true → has_name n name ≡ false
    → t < length n.signals → IsNetlist (with_output n name t)
output_kept n name t w room good new here =
    let u = unnamed n name new in
    let a = above_output n name t in
    record {
      few = w.few;
      few_outputs = let e = length-append n.outputs ((name, t) ∷ []) in omega (arith, e);
      signals = λ s h e. signal_above a h (w.signals s h e);
      outputs = λ i o e. elim (get_pushed n.outputs (name, t) o i e) [
        | inl q ↦ w.outputs i o q
        | inr q ↦ subst (λ (p : List ℕ × ℕ). (is_good p.0 ≡ true) × (p.1 < length n.signals)) (sym q.1) (good, here)
      ];
      apart = w.apart;
      outputs_apart = λ i j o p e f d. elim (get_pushed n.outputs (name, t) o i e) [
        | inl q ↦ elim (get_pushed n.outputs (name, t) p j f) [
          | inl r ↦ w.outputs_apart i j o p q r d
          | inr r ↦ absurd (u.outputs i o q (sym (d ∙ ap (λ (x : List ℕ × ℕ). x.0) r.1)))
        ]
        | inr q ↦ elim (get_pushed n.outputs (name, t) p j f) [
          | inl r ↦ absurd (u.outputs j p r (sym (ap (λ (x : List ℕ × ℕ). x.0) q.1) ∙ d))
          | inr r ↦ q.0 ∙ sym r.0
        ]
      ];
      between = λ s i h o e f d. elim (get_pushed n.outputs (name, t) o i f) [
        | inl q ↦ w.between s i h o e q d
        | inr q ↦ u.signals s h e (sym (d ∙ ap (λ (x : List ℕ × ℕ). x.0) q.1))
      ];
    }

-- what stands at a place after a kind was set: the same name, and the kind set or the one before
pub record Was (gs : List Signal) (s i : ℕ) (k : Kind) (h : Signal) : Type 0 where
  pub before : Signal
  pub at : slice_get gs i ≡ Some before
  pub name : h.name ≡ before.name
  pub width : h.width ≡ before.width
  pub kind : ((i ≡ s) × (h.kind ≡ k)) ⊎ (h.kind ≡ before.kind)

pub was : (gs : List Signal) (s i : ℕ) (k : Kind) (h : Signal) → slice_get (set_kind gs s k) i ≡ Some h → Was gs s i k h
was [] s i k h e = absurd (cc)
was (g ∷ gs) zero zero k h e =
    let q : h ≡ record { name = g.name; width = g.width; kind = k } = cc in
    record { before = g; at = refl; name = ap (λ (x : Signal). x.name) q; width = ap (λ (x : Signal). x.width) q; kind = inl (refl, ap (λ (x : Signal). x.kind) q) }
was (g ∷ gs) zero (suc i) k h e = record { before = h; at = e; name = refl; width = refl; kind = inr refl }
was (g ∷ gs) (suc s) zero k h e =
    let q : h ≡ g = cc in
    record { before = g; at = refl; name = ap (λ (x : Signal). x.name) q; width = ap (λ (x : Signal). x.width) q; kind = inr (ap (λ (x : Signal). x.kind) q) }
was (g ∷ gs) (suc s) (suc i) k h e =
    let q = was gs s i k h e in
    record { before = q.before; at = q.at; name = q.name; width = q.width; kind = elim q.kind [ inl r ↦ inl (ap suc r.0, r.1) | inr r ↦ inr r ] }

-- a kind that is set
pub set_kept : (n : Netlist) (s : ℕ) (k : Kind) (g : Signal) → IsNetlist n → slice_get n.signals s ≡ Some g → KindFits n g.width k → IsNetlist (with_kind n s k)
set_kept n s k g w here fits =
    let a = above_set n s k in
    let long = set_length n.signals s k in
    record {
      few = let q = w.few in omega (arith, q, long);
      few_outputs = w.few_outputs;
      signals = λ i h e.
          let b = was n.signals s i k h e in
          let f = w.signals i b.before b.at in
          record {
            good = ap is_good b.name ∙ f.good;
            some = let q = f.some in let r = b.width in omega (arith, q, r);
            most = let q = f.most in let r = b.width in omega (arith, q, r);
            kind = elim b.kind [
              | inl r ↦
                  let same : Some b.before ≡ Some g = sym b.at ∙ ap (λ x. slice_get n.signals x) r.0 ∙ here in
                  let one : b.before ≡ g = cc in
                  kind_above a h.width h.kind (subst (λ x. KindFits n h.width x) (sym r.1) (subst (λ x. KindFits n x k) (sym (b.width ∙ ap (λ (y : Signal). y.width) one)) fits))
              | inr r ↦ kind_above a h.width h.kind (subst (λ x. KindFits n h.width x) (sym r) (subst (λ x. KindFits n x b.before.kind) (sym b.width) f.kind))
            ];
          };
      outputs = λ i o e. let f = w.outputs i o e in (f.0, (let q = f.1 in omega (arith, q, long)));
      apart = λ i j g h e f d.
          let b = was n.signals s i k g e in
          let c = was n.signals s j k h f in
          w.apart i j b.before c.before b.at c.at (sym b.name ∙ d ∙ c.name);
      outputs_apart = w.outputs_apart;
      between = λ i j g o e f d.
          let b = was n.signals s i k g e in
          w.between i j b.before o b.at f (sym b.name ∙ d);
    }
