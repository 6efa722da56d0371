-- Cells and next signals that are set one after another.
use Rattle.safl_opt.proofs.Common.{All-cons, All-nil, IsNetlist, IsOrder, IsTemporary, IsWire, KindFits, Sig, SigKind, Values, cases_eq}
use Rattle.safl_opt.proofs.Common.{is_numbered, map-map, map_at, one_wire, op_width, operands_in, slice_get_within, wires}
use Rattle.std.proofs.Common.{All, ◌≡◌, ℕ, zero, suc, ◌+◌, ◌-◌, ◌<◌, List, [], ◌∷◌, map, length, Option, Some, None, Bool, true}
use Rattle.std.proofs.Common.{false, inl, inr, slice_get, refl, sym, ap, subst, ◌∙◌, arith}
use Rattle.safl_net.specs.Netlist.{Netlist, Signal, Kind, Input, Reg, Wire, Cell, IsSet, AllSet, width_in, width_of, open_kind}
use Rattle.safl_net.specs.Making.{kind_in, kind_at, name_at, cell_in, next_in, sort_of, with_kind, set_kind, signal_widths, numbers}
use Rattle.safl_net.specs.Valuations.{kind_reset, reset_number, reset_state}
use Rattle.safl_net.proofs.SignalKinds.{next_kind, set_at, set_other, tidy_kind}
use Rattle.safl_net.proofs.Keeping.{set_length, set_width}
use Rattle.safl_opt.specs.Values.{sig_at, Folds, HasValue, IsDone}
use Rattle.safl_opt.specs.Building.{IsRoot, shown, kept, named, AreRead, new_number, new_cell, new_kind, open_signal, kept_signal}
use Rattle.safl_opt.specs.Stages.{Placed, HaveNumbers, IsTurn, AreListed, SetBelow}
use Rattle.safl_opt.proofs.Coming.{kept_get, kept_within, cell_fits}
use Rattle.safl_opt.proofs.Adding.{kept_lasts, wire_or_not, known, next_known, operand_within}
use Rattle.safl_opt.proofs.Marking.{have_values}
use Rattle.safl_opt.proofs.Placing.{HasNumber, number}

-- ---- a kind that is set

set_here : (gs : List Signal) (s : ℕ) (k : Kind) (g : Signal) → slice_get gs s ≡ Some g → slice_get (set_kind gs s k) s ≡ Some (record { name = g.name; width = g.width; kind = k })
set_here [] s k g e = absurd (cc)
set_here (h ∷ gs) zero k g e = let q : h ≡ g = cc in ap (λ (x : Signal). Some (let y : Signal = record { name = x.name; width = x.width; kind = k } in y)) q
set_here (h ∷ gs) (suc s) k g e = set_here gs s k g e

-- a kind that is there already
set_same : (gs : List Signal) (s : ℕ) (k : Kind) (g : Signal) → slice_get gs s ≡ Some g → g.kind ≡ k → set_kind gs s k ≡ gs
set_same [] s k g e q = refl
set_same (h ∷ gs) zero k g e q =
    let one : h ≡ g = cc in
    ap (λ j. (let y : Signal = record { name = h.name; width = h.width; kind = j } in y) ∷ gs) (sym q ∙ ap (λ (x : Signal). x.kind) (sym one))
set_same (h ∷ gs) (suc s) k g e q = ap (λ l. h ∷ l) (set_same gs s k g e q)

pub stays : (m : Netlist) (s : ℕ) (k : Kind) (g : Signal) → slice_get m.signals s ≡ Some g → g.kind ≡ k → m ≡ with_kind m s k
stays m s k g e q = ap (λ (l : List Signal). let x : Netlist = record { signals = l; outputs = m.outputs } in x) (sym (set_same m.signals s k g e q))

same_wires : (f : Values) (made : List Sig) (k : Kind) → one_wire (new_kind f made k) ≡ one_wire (open_kind k)
same_wires f made Input = refl
same_wires f made (Reg init None) = refl
same_wires f made (Reg init (Some t)) = refl
same_wires f made (Wire None) = refl
same_wires f made (Wire (Some c)) = refl

-- ---- one more is set

pub set_none : (n : Netlist) (f : Values) (read : List Bool) (made : List Sig) (first : Netlist) → Placed n f read (length f.nodes) made first → SetBelow n f made first 0 first
set_none n f read made first p = record {
  long = refl;
  widths = λ y. refl;
  done = λ x lt. absurd (omega (arith, lt));
  left = λ x le lt. p.kept x lt;
  rest = λ y le. refl;
  outputs = refl;
  tidy = p.tidy;
}

abbrev kind_for : Netlist → Values → List Sig → ℕ → Kind
kind_for n f made i = new_kind f made (kind_at n (sig_at f.signals.items i))

pub set_next : (n : Netlist) (f : Values) (made : List Sig) (first m a : Netlist) (i j : ℕ) → j ≡ i + 1 → i < f.kept → SetBelow n f made first i m
    → a ≡ with_kind m i (new_kind f made (kind_at n (sig_at f.signals.items i))) → SetBelow n f made first j a
set_next n f made first m a i j q lt b e = subst (λ k. SetBelow n f made first k a) (sym q) (subst (SetBelow n f made first (i + 1)) (sym e) (record {
  long = set_length m.signals i (kind_for n f made i) ∙ b.long;
  widths = λ y. set_width m.signals i (kind_for n f made i) y ∙ b.widths y;
  done = λ x lx. elim (cases_eq x i) [
    | inl one ↦
        ap (slice_get (set_kind m.signals i (kind_for n f made i))) one ∙ set_here m.signals i (kind_for n f made i) (open_signal n (sig_at f.signals.items i)) (b.left i (omega arith) lt)
        ∙ ap (λ k. Some (kept_signal n f made (sig_at f.signals.items k))) (sym one)
    | inr ne ↦ set_other m.signals i (kind_for n f made i) x ne ∙ b.done x (omega (arith, lx, ne))
  ];
  left = λ x le lx. set_other m.signals i (kind_for n f made i) x (λ o. absurd (omega (arith, o, le))) ∙ b.left x (omega (arith, le)) lx;
  rest = λ y le. set_other m.signals i (kind_for n f made i) y (λ o. absurd (omega (arith, o, le, lt))) ∙ b.rest y le;
  outputs = b.outputs;
  tidy = tidy_kind m i (kind_for n f made i) (same_wires f made (kind_at n (sig_at f.signals.items i)) ∙ ap (λ o. one_wire (kind_in o)) (sym (b.left i (omega arith) lt))) b.tidy;
}))

-- ---- the numbers of roots

module _ (n : Netlist) (kn : IsNetlist n) (ws : List ℕ) (order : IsOrder n ws) (f : Values) (h : Folds n ws (length ws) f) (read : List Bool) (marks : AreRead n f read) where
  root_known : (s : ℕ) → IsRoot n s → s < length n.signals
  root_known s (shown i o e q) = subst (λ t. t < length n.signals) q (kn.outputs i o e).1
  root_known s (kept r init e) = next_known n r init s kn e
  root_known s (named a w q r) = by (kind_at n a) refl
    where
      by : (k : Kind) → kind_at n a ≡ k → s < length n.signals
      by Input e = absurd (let z = sym (ap (λ k. slice_get (operands_in (cell_in k)) r.0) e) ∙ r.1 in cc)
      by (Reg init next) e = absurd (let z = sym (ap (λ k. slice_get (operands_in (cell_in k)) r.0) e) ∙ r.1 in cc)
      by (Wire None) e = absurd (let z = sym (ap (λ k. slice_get (operands_in (cell_in k)) r.0) e) ∙ r.1 in cc)
      by (Wire (Some c)) e = operand_within n a c r.0 s kn e (sym (ap (λ k. slice_get (operands_in (cell_in k)) r.0) e) ∙ r.1)

  pub numbers_of : (made : List Sig) (m : Netlist) → Placed n f read (length f.nodes) made m → HaveNumbers n f made m
  numbers_of made m p = record {
    listed = λ s r.
        let k = root_known s r in
        let a = (have_values n ws order f h).known s k in
        let b = h.full in
        let c = h.counted in
        let d = p.long in
        (omega (arith, k, b), omega (arith, a, c, d));
    known = λ s r. (its s r).known;
    width = λ s r. (its s r).width ∙ (value s (root_known s r)).width;
  }
    where
      done : (s : ℕ) → s < length n.signals → IsDone n ws (length ws) s
      done s lt = (
        lt,
        elim (wire_or_not n s) [
          | inl w ↦ let r = order.all s w in inr (r.0, slice_get_within ws r.0 s r.1, r.1)
          | inr w ↦ inl (λ t. w t.wire)
        ],
      )

      value : (s : ℕ) → s < length n.signals → HasValue n ws f.signals.items s (sig_at f.ids.items s)
      value s lt = h.values s (done s lt)

      its : (s : ℕ) → IsRoot n s → HasNumber n f made m (sig_at f.ids.items s)
      its s r =
          number n kn ws order f h read marks (length f.nodes) made m p (sig_at f.ids.items s)
          (let a = (value s (root_known s r)).known in let b = h.counted in omega (arith, a, b)) (omega arith) (λ j e. marks.roots s r)

  pub numbers_stay : (made : List Sig) (first m : Netlist) (i : ℕ) → HaveNumbers n f made first → SetBelow n f made first i m → HaveNumbers n f made m
  numbers_stay made first m i k b = record {
    listed = k.listed;
    known = λ s r. let a = k.known s r in let c = b.long in omega (arith, a, c);
    width = λ s r. b.widths (new_number f made s) ∙ k.width s r;
  }

-- ---- what a kept signal reads is a root

all_mapped : (P : ℕ → Type 0) (g : ℕ → ℕ) (xs : List ℕ) → ((k t : ℕ) → slice_get xs k ≡ Some t → P (g t)) → All P (map g xs)
all_mapped P g [] h = All-nil P
all_mapped P g (x ∷ xs) h = All-cons P (g x) (map g xs) (h 0 x refl) (all_mapped P g xs (λ k t e. h (suc k) t e))

module _ (n : Netlist) (kn : IsNetlist n) (f : Values) (made : List Sig) (i s : ℕ) (m : Netlist) (turn : IsTurn n f made i s m) where
  abbrev have : HaveNumbers n f made m
  have = turn.numbers

  pub turn_known : s < length n.signals
  turn_known = subst (λ t. t < length n.signals) (sym turn.signal) (kept_within n turn.wires (length turn.wires) f turn.folds i turn.within)

  lasts : ¬ IsTemporary n s
  lasts = subst (λ t. ¬ IsTemporary n t) (sym turn.signal) (kept_lasts n i (sig_at f.signals.items i) (kept_get n turn.wires (length turn.wires) f turn.folds i turn.within))

  -- an operand of its cell
  operand_root : (c : Cell) → kind_at n s ≡ Wire (Some c) → (k t : ℕ) → slice_get c.operands k ≡ Some t → IsRoot n t
  operand_root c e k t o = by (is_numbered (name_at n s)) refl
    where
      wire : IsWire n s
      wire = ap sort_of e

      by : (b : Bool) → is_numbered (name_at n s) ≡ b → IsRoot n t
      by true q = absurd (lasts (record { wire = wire; name = q }))
      by false q = named s wire q (k, ap (λ x. slice_get (operands_in (cell_in x)) k) e ∙ o)

  -- the cell has its width on the new numbers
  pub cell_gives : (c : Cell) → kind_at n s ≡ Wire (Some c) → op_width c.op (signal_widths m (new_cell f made c).operands) ≡ Some (width_of n s)
  cell_gives c e =
      ap (op_width c.op) (
      map-map (width_of m) (new_number f made) c.operands
      ∙ map_at (λ t. width_of m (new_number f made t)) (width_of n) c.operands (λ k t o. have.width t (operand_root c e k t o))
      )
      ∙ (cell_fits n s c kn e).gives

  pub cell_listed : (c : Cell) → kind_at n s ≡ Wire (Some c) → AreListed f made c.operands
  cell_listed c e k t o = have.listed t (operand_root c e k t o)

  pub cell_known : (c : Cell) → kind_at n s ≡ Wire (Some c) → All (λ x. x < length m.signals) (new_cell f made c).operands
  cell_known c e = all_mapped (λ x. x < length m.signals) (new_number f made) c.operands (λ k t o. have.known t (operand_root c e k t o))

  pub next_fits : (init t : ℕ) → kind_at n s ≡ Reg init (Some t) → width_of m (new_number f made t) ≡ width_of n s
  next_fits init t e = have.width t (kept s init e) ∙ by (slice_get n.signals s) refl
    where
      by : (o : Option Signal) → slice_get n.signals s ≡ o → width_of n t ≡ width_of n s
      by None q = absurd (let z = sym (ap kind_in q) ∙ e in cc)
      by (Some g) q = (subst (KindFits n g.width) (sym (ap kind_in q) ∙ e) (kn.signals s g q).kind).2 ∙ sym (ap width_in q)

  pub next_listed : (init t : ℕ) → kind_at n s ≡ Reg init (Some t) → (t < length f.ids.items) × (sig_at f.ids.items t < length made)
  next_listed init t e = have.listed t (kept s init e)

  pub next_number_known : (init t : ℕ) → kind_at n s ≡ Reg init (Some t) → new_number f made t < length m.signals
  next_number_known init t e = have.known t (kept s init e)

-- ---- one signal is set

input_same : (f : Values) (made : List Sig) (k : Kind) → sort_of k ≡ SigKind.Input → open_kind k ≡ new_kind f made k
input_same f made Input e = refl
input_same f made (Reg init next) e = absurd (cc)
input_same f made (Wire c) e = absurd (cc)

-- a register that has no next signal, and a wire that has no cell, is not set
no_next : (k : Kind) → IsSet k → sort_of k ≡ SigKind.Reg → None ≡ next_in k → ⊥
no_next Input t e q = absurd (cc)
no_next (Reg init None) t e q = t
no_next (Reg init (Some s)) t e q = absurd (cc)
no_next (Wire c) t e q = absurd (cc)

no_cell : (k : Kind) → IsSet k → sort_of k ≡ SigKind.Wire → None ≡ cell_in k → ⊥
no_cell Input t e q = absurd (cc)
no_cell (Reg init next) t e q = absurd (cc)
no_cell (Wire None) t e q = t
no_cell (Wire (Some c)) t e q = absurd (cc)

pub never_open_register : (n : Netlist) → AllSet n → (s : ℕ) → s < length n.signals → sort_of (kind_at n s) ≡ SigKind.Reg → None ≡ next_in (kind_at n s) → ⊥
never_open_register n set s lt e q = no_next (kind_at n s) (set_at n s set lt) e q

pub never_open_wire : (n : Netlist) → AllSet n → (s : ℕ) → s < length n.signals → sort_of (kind_at n s) ≡ SigKind.Wire → None ≡ cell_in (kind_at n s) → ⊥
never_open_wire n set s lt e q = no_cell (kind_at n s) (set_at n s set lt) e q

module _ (n : Netlist) (f : Values) (made : List Sig) (i s : ℕ) (m : Netlist) (turn : IsTurn n f made i s m) where
  abbrev at : s ≡ sig_at f.signals.items i
  at = turn.signal

  abbrev there : slice_get m.signals i ≡ Some (open_signal n (sig_at f.signals.items i))
  there = turn.open_yet

  pub input_set : sort_of (kind_at n s) ≡ SigKind.Input → m ≡ with_kind m i (new_kind f made (kind_at n (sig_at f.signals.items i)))
  input_set e = stays m i (new_kind f made (kind_at n (sig_at f.signals.items i))) (open_signal n (sig_at f.signals.items i)) there
      (input_same f made (kind_at n (sig_at f.signals.items i)) (ap (λ t. sort_of (kind_at n t)) (sym at) ∙ e))

  pub width_here : width_of m i ≡ width_of n s
  width_here = ap width_in there ∙ ap (width_of n) (sym at)

  -- a register
  module _ (t : ℕ) (e : Some t ≡ next_in (kind_at n s)) where
    pub init_of : ℕ
    init_of = (next_kind (kind_at n s) t e).0

    pub register_kind : kind_at n s ≡ Reg init_of (Some t)
    unfolding init_of
    register_kind = (next_kind (kind_at n s) t e).1

    its_kind : kind_at n (sig_at f.signals.items i) ≡ Reg init_of (Some t)
    its_kind = ap (kind_at n) (sym at) ∙ register_kind

    its_reset : reset_state m i ≡ init_of
    its_reset = ap reset_number there ∙ ap (λ k. kind_reset (open_kind k)) its_kind

    pub register_open : kind_at m i ≡ Reg (reset_state m i) None
    register_open = ap kind_in there ∙ ap open_kind its_kind ∙ ap (λ k. Reg k None) (sym its_reset)

    pub register_set : (a : Netlist) (u : ℕ) → u ≡ new_number f made t → a ≡ with_kind m i (Reg (reset_state m i) (Some u)) → a ≡ with_kind m i (new_kind f made (kind_at n (sig_at f.signals.items i)))
    register_set a u q h =
        h ∙ ap (λ k. with_kind m i (Reg k (Some u))) its_reset ∙ ap (λ k. with_kind m i (Reg init_of (Some k))) q
        ∙ ap (λ k. with_kind m i (new_kind f made k)) (sym its_kind)

  -- a wire
  module _ (c : Cell) (e : kind_at n s ≡ Wire (Some c)) where
    wire_here : kind_at n (sig_at f.signals.items i) ≡ Wire (Some c)
    wire_here = ap (kind_at n) (sym at) ∙ e

    pub wire_open : kind_at m i ≡ Wire None
    wire_open = ap kind_in there ∙ ap open_kind wire_here

    pub wire_set : (a : Netlist) → a ≡ with_kind m i (Wire (Some (new_cell f made c))) → a ≡ with_kind m i (new_kind f made (kind_at n (sig_at f.signals.items i)))
    wire_set a h = h ∙ ap (λ k. with_kind m i (new_kind f made k)) (sym wire_here)

-- signals of known numbers are known
pub known_numbers : (m : Netlist) (xs : List Sig) → All (λ s. s < length m.signals) (numbers xs) → All (λ (s : Sig). s.0 < length m.signals) xs
known_numbers m [] h = All-nil (λ (s : Sig). s.0 < length m.signals)
known_numbers m (x ∷ xs) h = All-cons (λ (s : Sig). s.0 < length m.signals) x xs (h 0 0 (omega arith)) (known_numbers m xs (λ k d lt. h (suc k) d (omega (arith, lt))))
