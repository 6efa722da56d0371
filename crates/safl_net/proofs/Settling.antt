-- What keeps a net settled.
use Rattle.safl_net.proofs.Common.{Cell, Kind, Netlist, Op, Reg, Sig, Signal, Wire, get_pushed, slice_get_within}
use Rattle.std.proofs.Common.{◌≡◌, ℕ, zero, suc, ◌+◌, ◌<◌, List, [], ◌∷◌, ◌++◌, length, Option, Some, None, Bool, true, false, cond, ◌==◌}
use Rattle.std.proofs.Common.{inl, inr, slice_get, refl, sym, ap, subst, ◌∙◌, arith}
use Rattle.std.proofs.lemmas.Bool.Decides.{Decides-eqb}
use Rattle.std.proofs.lemmas.Bool.{cases_eq}
use Rattle.safl_net.specs.Making.{with_signal, with_output, with_kind, set_kind, numbers, cell_on, temporary, kind_in, kind_at}
use Rattle.safl_net.specs.Growth.{HasCell, Grows}
use Rattle.safl_net.specs.Settled.{IsDriven, IsDrivenIn, IsSteady, AreSteady, IsSettled, Settles}
use Rattle.safl_net.proofs.Growth.{get_kept, get_new}

-- ---- steady signals

driven_some : (o : Option Signal) → IsDrivenIn o → (g : Signal) × (o ≡ Some g) × IsDriven g.kind
driven_some None h = absurd h
driven_some (Some g) h = (g, refl, h)

steady_get : (n : Netlist) (s : ℕ) → IsSteady n s → (g : Signal) × (slice_get n.signals s ≡ Some g) × IsDriven g.kind
steady_get n s h = driven_some (slice_get n.signals s) h

pub steady_by : (n : Netlist) (s : ℕ) (g : Signal) → slice_get n.signals s ≡ Some g → IsDriven g.kind → IsSteady n s
steady_by n s g e h = subst IsDrivenIn (sym e) h

-- steady signals stay steady where the net grows
pub steady_grown : {a b : Netlist} → Grows a b → (s : ℕ) → IsSteady a s → IsSteady b s
steady_grown {a} {b} g s h = let k = steady_get a s h in steady_by b s k.0 (get_kept g s k.0 k.1) k.2

are_steady : (a b : Netlist) → ((s : ℕ) → IsSteady a s → IsSteady b s) → (xs : List Sig) → AreSteady a xs → AreSteady b xs
are_steady a b f [] h = tt
are_steady a b f (x ∷ xs) h = (f x.0 h.0, are_steady a b f xs h.1)

pub are_steady_grown : {a b : Netlist} → Grows a b → (xs : List Sig) → AreSteady a xs → AreSteady b xs
are_steady_grown {a} {b} g xs h = are_steady a b (steady_grown g) xs h

pub are_steady_more : (n : Netlist) (xs ys : List Sig) → AreSteady n xs → AreSteady n ys → AreSteady n (xs ++ ys)
are_steady_more n [] ys a b = b
are_steady_more n (x ∷ xs) ys a b = (a.0, are_steady_more n xs ys a.1 b)

numbers_steady : (n : Netlist) (xs : List Sig) → AreSteady n xs → (i t : ℕ) → slice_get (numbers xs) i ≡ Some t → IsSteady n t
numbers_steady n [] h i t e = absurd (cc)
numbers_steady n (x ∷ xs) h zero t e = let q : x.0 ≡ t = cc in subst (IsSteady n) q h.0
numbers_steady n (x ∷ xs) h (suc i) t e = numbers_steady n xs h.1 i t e

-- ---- a net in which one signal is new or another

-- nothing else changes; a wire that changes was not steady, and its new cell reads steady signals
record Changes (n m : Netlist) (s : ℕ) (xs : List ℕ) : Type 0 where
  others : (t : ℕ) (h : Signal) → ¬ (t ≡ s) → slice_get m.signals t ≡ Some h → slice_get n.signals t ≡ Some h
  free : (h : Signal) (d : Option Cell) → slice_get m.signals s ≡ Some h → h.kind ≡ Wire d → ¬ IsSteady n s
  cell : (h : Signal) (c : Cell) → slice_get m.signals s ≡ Some h → h.kind ≡ Wire (Some c) → c.operands ≡ xs
  operands : (i t : ℕ) → slice_get xs i ≡ Some t → IsSteady n t
  steady : (t : ℕ) → IsSteady n t → IsSteady m t

-- a rank above those of some signals
abbrev over : (ℕ → ℕ) → List ℕ → ℕ
over r [] = 0
over r (x ∷ xs) = suc (r x + over r xs)

is_over : (r : ℕ → ℕ) (xs : List ℕ) (i t : ℕ) → slice_get xs i ≡ Some t → r t < over r xs
is_over r [] i t e = absurd (cc)
is_over r (x ∷ xs) zero t e = let q : x ≡ t = cc in let f = ap r q in omega (arith, f)
is_over r (x ∷ xs) (suc i) t e = let h = is_over r xs i t e in omega (arith, h)

abbrev ranked : (ℕ → ℕ) → ℕ → ℕ → ℕ → ℕ
ranked r s k t = cond (t == s) k (r t)

ranked_here : (r : ℕ → ℕ) (s k t : ℕ) → t ≡ s → ranked r s k t ≡ k
ranked_here r s k t e = ap (λ b. cond b k (r t)) ((Decides-eqb t s).1 e)

ranked_else : (r : ℕ → ℕ) (s k t : ℕ) → ¬ (t ≡ s) → ranked r s k t ≡ r t
ranked_else r s k t d = by (t == s) refl
  where
    by : (b : Bool) → (t == s) ≡ b → cond b k (r t) ≡ r t
    by true e = absurd (d ((Decides-eqb t s).0 e))
    by false e = refl

module _ (n m : Netlist) (s : ℕ) (xs : List ℕ) (k : Changes n m s xs) (old : IsSettled n) where
  here : (t : ℕ) (g : Signal) (c : Cell) → t ≡ s → slice_get m.signals t ≡ Some g → g.kind ≡ Wire (Some c) → (¬ IsSteady n s) × (c.operands ≡ xs)
  here t g c q e f =
      let e2 = subst (λ x. slice_get m.signals x ≡ Some g) q e in
      (k.free g (Some c) e2 f, k.cell g c e2 f)

  read_steady : (t u i : ℕ) (g : Signal) (c : Cell) → slice_get m.signals t ≡ Some g → g.kind ≡ Wire (Some c) → slice_get c.operands i ≡ Some u → IsSteady n u
  read_steady t u i g c e f o = elim (cases_eq t s) [
    | inl q ↦ k.operands i u (ap (λ l. slice_get l i) (sym (here t g c q e f).1) ∙ o)
    | inr q ↦ old.reads t u i g c (k.others t g q e) f o
  ]

  -- a wire that a cell reads is none that changes
  read_other : (u : ℕ) (h : Signal) (d : Option Cell) → IsSteady n u → slice_get m.signals u ≡ Some h → h.kind ≡ Wire d → ¬ (u ≡ s)
  read_other u h d w e f = λ q. k.free h d (subst (λ x. slice_get m.signals x ≡ Some h) q e) f (subst (IsSteady n) q w)

  abbrev rank : ℕ → ℕ
  rank = ranked old.acyclic.rank s (over old.acyclic.rank xs)

  rises : (t u i : ℕ) (g h : Signal) (c : Cell) (d : Option Cell) → slice_get m.signals t ≡ Some g → g.kind ≡ Wire (Some c) → slice_get c.operands i ≡
      Some u → slice_get m.signals u ≡ Some h → h.kind ≡ Wire d → rank u < rank t
  rises t u i g h c d e f o p r =
      let w = read_steady t u i g c e f o in
      let z = read_other u h d w p r in
      let a = ranked_else old.acyclic.rank s (over old.acyclic.rank xs) u z in
      elim (cases_eq t s) [
        | inl q ↦
            let b = ranked_here old.acyclic.rank s (over old.acyclic.rank xs) t q in
            let l = is_over old.acyclic.rank xs i u (ap (λ x. slice_get x i) (sym (here t g c q e f).1) ∙ o) in
            omega (arith, a, b, l)
        | inr q ↦
            let b = ranked_else old.acyclic.rank s (over old.acyclic.rank xs) t q in
            let l = old.acyclic.rises t u i g h c d (k.others t g q e) f o (k.others u h z p) r in
            omega (arith, a, b, l)
      ]

  settled : IsSettled m
  settled = record {
    acyclic = record { rank = rank; rises = rises };
    reads = λ t u i g c e f o. k.steady u (read_steady t u i g c e f o);
  }

changes : (n m : Netlist) (s : ℕ) (xs : List ℕ) → Changes n m s xs → Settles n m
changes n m s xs k = record { settled = λ h. settled n m s xs k h; steady = k.steady }

-- ---- nothing, and one step after another

pub settles_same : (n m : Netlist) → m ≡ n → Settles n m
settles_same n m e = subst (λ x. Settles n x) (sym e) (record { settled = λ h. h; steady = λ s h. h })

pub settles_on : {a b c : Netlist} → Settles a b → Settles b c → Settles a c
settles_on g h = record { settled = λ k. h.settled (g.settled k); steady = λ s k. h.steady s (g.steady s k) }

pub are_steady_on : {a b : Netlist} → Settles a b → (xs : List Sig) → AreSteady a xs → AreSteady b xs
are_steady_on {a} {b} g xs h = are_steady a b g.steady xs h

-- ---- one more signal

driven_front : (gs hs : List Signal) (s : ℕ) → IsDrivenIn (slice_get gs s) → IsDrivenIn (slice_get (gs ++ hs) s)
driven_front [] hs s h = absurd h
driven_front (g ∷ gs) hs zero h = h
driven_front (g ∷ gs) hs (suc s) h = driven_front gs hs s h

not_driven : (gs : List Signal) → ¬ IsDrivenIn (slice_get gs (length gs))
not_driven [] = λ h. h
not_driven (g ∷ gs) = not_driven gs

one_more : (n : Netlist) (g : Signal) (xs : List ℕ) → ((c : Cell) → g.kind ≡ Wire (Some c) → c.operands ≡ xs) → ((i t : ℕ) → slice_get xs i ≡ Some t → IsSteady n t)
    → Changes n (with_signal n g) (length n.signals) xs
one_more n g xs is ok = record {
  others = λ t h d e. elim (get_pushed n.signals g h t e) [ inl q ↦ q | inr q ↦ absurd (d q.0) ];
  free = λ h d e f. not_driven n.signals;
  cell = λ h c e f. elim (get_pushed n.signals g h (length n.signals) e) [
    | inl q ↦ let l = slice_get_within n.signals (length n.signals) h q in absurd (omega (arith, l))
    | inr q ↦ is c (ap (λ (x : Signal). x.kind) (sym q.1) ∙ f)
  ];
  operands = ok;
  steady = λ t h. driven_front n.signals (g ∷ []) t h;
}

same_operands : (a c : Cell) → Wire (Some a) ≡ Wire (Some c) → c.operands ≡ a.operands
same_operands a c f = let q : a ≡ c = cc in ap (λ (x : Cell). x.operands) (sym q)

no_cell : (k : Kind) (c : Cell) → ¬ HasCell k → ¬ (k ≡ Wire (Some c))
no_cell k c h = λ e. h (subst HasCell (sym e) tt)

-- a temporary of steady operands
pub settles_temp : (n m : Netlist) (op : Op) (xs : List Sig) → AreSteady n xs → m ≡ with_signal n (temporary n op xs) → Settles n m
settles_temp n m op xs h e =
    subst (λ x. Settles n x) (sym e) (changes n (with_signal n (temporary n op xs)) (length n.signals) (numbers xs)
    (one_more n (temporary n op xs) (numbers xs) (same_operands (cell_on op xs)) (numbers_steady n xs h)))

-- the new signal is steady where it is no wire without a cell
pub steady_new : (n m : Netlist) (g : Signal) (s : ℕ) → IsDriven g.kind → m ≡ with_signal n g → s ≡ length n.signals → IsSteady m s
steady_new n m g s h e f = steady_by m s g (get_new n m g s e f) h

-- ---- another kind

set_else : (gs : List Signal) (s : ℕ) (k : Kind) (t : ℕ) → ¬ (t ≡ s) → slice_get (set_kind gs s k) t ≡ slice_get gs t
set_else [] s k t d = refl
set_else (g ∷ gs) zero k zero d = absurd (d refl)
set_else (g ∷ gs) zero k (suc t) d = refl
set_else (g ∷ gs) (suc s) k zero d = refl
set_else (g ∷ gs) (suc s) k (suc t) d = set_else gs s k t (λ e. d (ap suc e))

set_here : (gs : List Signal) (s : ℕ) (k : Kind) (h : Signal) → slice_get (set_kind gs s k) s ≡ Some h → h.kind ≡ k
set_here [] s k h e = absurd (cc)
set_here (g ∷ gs) zero k h e = let q : h ≡ record { name = g.name; width = g.width; kind = k } = cc in ap (λ (x : Signal). x.kind) q
set_here (g ∷ gs) (suc s) k h e = set_here gs s k h e

set_driven : (gs : List Signal) (s : ℕ) (k : Kind) (t : ℕ) → IsDriven k → IsDrivenIn (slice_get gs t) → IsDrivenIn (slice_get (set_kind gs s k) t)
set_driven [] s k t d h = h
set_driven (g ∷ gs) zero k zero d h = d
set_driven (g ∷ gs) zero k (suc t) d h = h
set_driven (g ∷ gs) (suc s) k zero d h = h
set_driven (g ∷ gs) (suc s) k (suc t) d h = set_driven gs s k t d h

set_is_driven : (gs : List Signal) (s : ℕ) (k : Kind) → IsDriven k → s < length gs → IsDrivenIn (slice_get (set_kind gs s k) s)
set_is_driven [] s k d h = absurd (omega arith)
set_is_driven (g ∷ gs) zero k d h = d
set_is_driven (g ∷ gs) (suc s) k d h = set_is_driven gs s k d (omega arith)

not_steady : (n : Netlist) (s : ℕ) → kind_at n s ≡ Wire None → ¬ IsSteady n s
not_steady n s e = by (slice_get n.signals s) e
  where
    by : (o : Option Signal) → kind_in o ≡ Wire None → ¬ IsDrivenIn o
    by None e = λ h. h
    by (Some g) e = subst IsDriven e

there : (n : Netlist) (s : ℕ) → kind_at n s ≡ Wire None → s < length n.signals
there n s e = by (slice_get n.signals s) refl e
  where
    by : (o : Option Signal) → slice_get n.signals s ≡ o → kind_in o ≡ Wire None → s < length n.signals
    by None q e = absurd (cc)
    by (Some g) q e = slice_get_within n.signals s g q

-- a wire without a cell gets one of steady operands
pub settles_cell : (n m : Netlist) (s : ℕ) (op : Op) (xs : List Sig) → kind_at n s ≡ Wire None → AreSteady n xs → m ≡ with_kind n s (Wire (Some (cell_on op xs))) → Settles n m
settles_cell n m s op xs w h e = subst (λ x. Settles n x) (sym e) (changes n (with_kind n s (Wire (Some (cell_on op xs)))) s (numbers xs) (record {
  others = λ t g d f. sym (set_else n.signals s (Wire (Some (cell_on op xs))) t d) ∙ f;
  free = λ g d f q. not_steady n s w;
  cell = λ g c f q. same_operands (cell_on op xs) c (sym (set_here n.signals s (Wire (Some (cell_on op xs))) g f) ∙ q);
  operands = numbers_steady n xs h;
  steady = λ t d. set_driven n.signals s (Wire (Some (cell_on op xs))) t tt d;
}))

pub steady_cell : (n m : Netlist) (s : ℕ) (c : Cell) → kind_at n s ≡ Wire None → m ≡ with_kind n s (Wire (Some c)) → IsSteady m s
steady_cell n m s c w e = subst (λ x. IsSteady x s) (sym e) (set_is_driven n.signals s (Wire (Some c)) tt (there n s w))

-- a register gets its next signal
pub settles_next : (n m : Netlist) (r init : ℕ) (next : Option ℕ) → m ≡ with_kind n r (Reg init next) → Settles n m
settles_next n m r init next e = subst (λ x. Settles n x) (sym e) (changes n (with_kind n r (Reg init next)) r [] (record {
  others = λ t g d f. sym (set_else n.signals r (Reg init next) t d) ∙ f;
  free = λ g d f q. let z = sym (set_here n.signals r (Reg init next) g f) ∙ q in absurd (cc);
  cell = λ g c f q. let z = sym (set_here n.signals r (Reg init next) g f) ∙ q in absurd (cc);
  operands = λ i t f. absurd (cc);
  steady = λ t d. set_driven n.signals r (Reg init next) t tt d;
}))

-- one more output
pub settles_output : (n m : Netlist) (name : List ℕ) (s : ℕ) → m ≡ with_output n name s → Settles n m
settles_output n m name s e = subst (λ x. Settles n x) (sym e) (record {
  settled = λ h. record { acyclic = record { rank = h.acyclic.rank; rises = h.acyclic.rises }; reads = h.reads };
  steady = λ t h. h;
})
