-- In a net without loops, temporaries that something reads are reached.
use Rattle.safl_opt.proofs.Common.{Cell, Input, IsAcyclic, IsWire, Kind, Netlist, ReadsSignal, Reg, SigKind, Signal, Wire, cases_eq}
use Rattle.safl_opt.proofs.Common.{cell_in, get_some, kind_in, name_at, operands_in, sort_of, wire_in_net}
use Rattle.std.proofs.Common.{◌≡◌, ℕ, zero, suc, ◌+◌, ◌<◌, ◌≤◌, length, Option, Some, None, Bool, true, false, inl, inr, slice_get, refl, sym, ap, ◌∙◌, arith}
use Rattle.safl_opt.specs.Lean.{is_numbered, IsTemporary, HasCell, Reached, shown, kept, named, read, Lean}
use Rattle.safl_opt.specs.Spare.{IsReader, HasReader, IsWanted}
use Rattle.safl_opt.proofs.Adding.{known}

-- ---- the greatest rank below a bound

top : (ℕ → ℕ) → ℕ → ℕ
top f zero = 0
top f (suc i) = f i + top f i

below_top : (f : ℕ → ℕ) (i s : ℕ) → s < i → f s ≤ top f i
unfolding top
below_top f zero s lt = absurd (omega (arith, lt))
below_top f (suc i) s lt = elim (cases_eq s i) [
  | inl one ↦ let e = ap f one in omega (arith, e)
  | inr ne ↦ let ih = below_top f i s (omega (arith, lt, ne)) in omega (arith, ih)
]

-- a wire that has operands has a cell
cell_of_reader : (n : Netlist) (a s : ℕ) (r : ReadsSignal n a s) → (g : Signal) × (c : Cell) × (slice_get n.signals a ≡ Some g) × (g.kind ≡ Wire (Some c)) × (slice_get c.operands r.0 ≡ Some s)
cell_of_reader n a s r = by (slice_get n.signals a) refl r.1
  where
    kinds : (g : Signal) (k : Kind) → slice_get n.signals a ≡ Some g → g.kind ≡ k → slice_get (operands_in (cell_in k)) r.0 ≡ Some s → (g : Signal) ×
        (c : Cell) × (slice_get n.signals a ≡ Some g) × (g.kind ≡ Wire (Some c)) × (slice_get c.operands r.0 ≡ Some s)
    kinds g Input q e o = absurd (cc)
    kinds g (Reg init next) q e o = absurd (cc)
    kinds g (Wire None) q e o = absurd (cc)
    kinds g (Wire (Some c)) q e o = (g, c, q, e, o)

    by : (o : Option Signal) → slice_get n.signals a ≡ o → slice_get (operands_in (cell_in (kind_in o))) r.0 ≡ Some s → (g : Signal) × (c : Cell) ×
        (slice_get n.signals a ≡ Some g) × (g.kind ≡ Wire (Some c)) × (slice_get c.operands r.0 ≡ Some s)
    by None q o = absurd (cc)
    by (Some g) q o = kinds g g.kind q refl o

pub is_wire : (n : Netlist) (a s : ℕ) → ReadsSignal n a s → IsWire n a
is_wire n a s r = let c = cell_of_reader n a s r in ap (λ o. sort_of (kind_in o)) c.2 ∙ ap sort_of c.3

wire_kind : (k : Kind) → sort_of k ≡ SigKind.Wire → (d : Option Cell) × (k ≡ Wire d)
wire_kind Input e = absurd (cc)
wire_kind (Reg init next) e = absurd (cc)
wire_kind (Wire d) e = (d, refl)

module _ (n : Netlist) (ac : IsAcyclic n) where
  -- a reader that is a wire has the greater rank
  rises : (a s : ℕ) → ReadsSignal n a s → IsWire n s → ac.rank s < ac.rank a
  rises a s r w =
      let c = cell_of_reader n a s r in
      let g = get_some n.signals s (wire_in_net n s w) in
      let k = wire_kind g.0.kind (ap (λ o. sort_of (kind_in o)) (sym g.1) ∙ w) in
      ac.rises a s r.0 c.0 g.0 c.1 k.0 c.2 c.3 c.4 g.1 k.1

  higher : (a s : ℕ) → ReadsSignal n a s → ((a : ℕ) → ReadsSignal n a s → IsTemporary n a → Reached n a) → (b : Bool) → is_numbered (name_at n a) ≡ b → Reached n s
  higher a s r up false q = named a s (is_wire n a s r) q r
  higher a s r up true q = read a s (up a r (record { wire = is_wire n a s r; name = q })) r

  step : (s : ℕ) → ((a : ℕ) → ReadsSignal n a s → IsTemporary n a → Reached n a) → HasReader n s → Reached n s
  step s up (inl h) = shown h.index s h.output h.there h.is
  step s up (inr h) = elim h.1 [
    | inl r ↦ kept h.0 r.0 s r.1
    | inr r ↦ higher h.0 s r up (is_numbered (name_at n h.0)) refl
  ]

  module _ (all : (s : ℕ) → IsTemporary n s → HasReader n s) where
    -- upward from a wire, as far as ranks go
    climb : (fuel s : ℕ) → top ac.rank (length n.signals) < ac.rank s + fuel → IsTemporary n s → Reached n s
    climb zero s lt t = let b = below_top ac.rank (length n.signals) s (wire_in_net n s t.wire) in absurd (omega (arith, b, lt))
    climb (suc fuel) s lt t = step s (λ a r u. climb fuel a (let w = rises a s r t.wire in omega (arith, lt, w)) u) (all s t)

    pub reached : (s : ℕ) → IsTemporary n s → Reached n s
    reached s t = climb (suc (top ac.rank (length n.signals))) s (omega arith) t

-- what is reached is read
pub read_by : (n : Netlist) (s : ℕ) → Reached n s → HasReader n s
read_by n s (shown i t o e q) = inl (record { index = i; output = o; there = e; is = q })
read_by n s (kept r init t e) = inr (r, inl (init, e))
read_by n s (named a t w q r) = inr (a, inr r)
read_by n s (read a t p r) = inr (a, inr r)

-- ---- lean nets

pub all_wanted : (n : Netlist) → IsAcyclic n → ((s : ℕ) → IsTemporary n s → IsWanted n s) → Lean n
all_wanted n ac h = record {
  folded = λ s c t. ((h s t.temporary).needed c t.cell).folded;
  apart = λ s t c p q. sym ((h s p.temporary).alone c p.cell t q);
  no_copy = λ s c t. ((h s t.temporary).needed c t.cell).no_copy;
  chooses = λ s u a b c t e o. ((h s t.temporary).needed c t.cell).chooses e u a b o;
  reached = reached n ac (λ s t. (h s t).is_read);
}

pub wanted : (n : Netlist) (s : ℕ) → Lean n → IsTemporary n s → IsWanted n s
wanted n s l t = record {
  needed = λ c e.
      let has : HasCell n s c = record { temporary = t; cell = e } in
      record { folded = l.folded s c has; no_copy = l.no_copy s c has; chooses = λ q u a b o. l.chooses s u a b c has q o };
  alone = λ c e u p. l.apart u s c p (record { temporary = t; cell = e });
  is_read = read_by n s (l.reached s t);
}

-- what reads a signal is a signal of the net
pub reader_known : (n : Netlist) (a s : ℕ) → IsReader n a s → a < length n.signals
reader_known n a s (inl r) = known n a (λ e. let z = sym e ∙ r.1 in absurd (cc))
reader_known n a s (inr r) = wire_in_net n a (is_wire n a s r)
