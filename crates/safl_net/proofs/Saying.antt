-- A net in which cells and next signals are set says all that it said.
use Rattle.std.proofs.Common.{◌≡◌, ℕ, zero, suc, List, [], ◌∷◌, Some, None, slice_get, refl, sym, ap, subst, ◌∙◌}
use Rattle.safl_word.specs.Words.{Word}
use Rattle.safl_net.specs.Netlist.{Netlist, Signal, Kind, Reg, Wire, Cell}
use Rattle.safl_net.specs.Making.{with_output, with_kind, set_kind, kind_in, kind_at}
use Rattle.safl_net.specs.Growth.{Val, KindHolds, SignalHolds, maybe_width, Says}

pub says_same : (n : Netlist) → Says n n
says_same n = record { before = λ v w. w; widths = λ s w e. e }

pub says_on : {a b c : Netlist} → Says a b → Says b c → Says a c
says_on g h = record { before = λ v w. g.before v (h.before v w); widths = λ s w e. h.widths s w (g.widths s w e) }

-- one more output
pub says_output : (n : Netlist) (name : List ℕ) (s : ℕ) → Says n (with_output n name s)
says_output n name s = record { before = λ v w. record { each = w.each }; widths = λ s w e. e }

width_set : (gs : List Signal) (s : ℕ) (k : Kind) (i : ℕ) → maybe_width (slice_get (set_kind gs s k) i) ≡ maybe_width (slice_get gs i)
width_set [] s k i = refl
width_set (g ∷ gs) zero k zero = refl
width_set (g ∷ gs) zero k (suc i) = refl
width_set (g ∷ gs) (suc s) k zero = refl
width_set (g ∷ gs) (suc s) k (suc i) = width_set gs s k i

-- a kind that asks nothing of a word
abbrev pub IsOpen : Kind → Type 0
IsOpen k = (v : Val) (w : Word) → KindHolds v w k

holds_open : (gs : List Signal) (s : ℕ) (k : Kind) (i : ℕ) (g : Signal) (v : Val) (x : Word) → IsOpen (kind_in (slice_get gs s)) → slice_get gs i ≡ Some g
    → ((h : Signal) → slice_get (set_kind gs s k) i ≡ Some h → SignalHolds v x h) → SignalHolds v x g
holds_open [] s k i g v x o e h = absurd (cc)
holds_open (a ∷ gs) zero k zero g v x o e h =
    let q = h (record { name = a.name; width = a.width; kind = k }) refl in
    let p : a ≡ g = cc in
    subst (λ y. SignalHolds v x y) p (record { width = q.width; bits = q.bits; kind = o v x })
holds_open (a ∷ gs) zero k (suc i) g v x o e h = h g e
holds_open (a ∷ gs) (suc s) k zero g v x o e h = h g e
holds_open (a ∷ gs) (suc s) k (suc i) g v x o e h = holds_open gs s k i g v x o e h

pub says_set : (n : Netlist) (s : ℕ) (k : Kind) → IsOpen (kind_at n s) → Says n (with_kind n s k)
says_set n s k o = record {
  before = λ v h. record { each = λ i g e. holds_open n.signals s k i g v (v i) o e (h.each i) };
  widths = λ i w e. width_set n.signals s k i ∙ e;
}

-- a cell that is set, and a next signal
pub says_cell : (n : Netlist) (s : ℕ) (c : Cell) → kind_at n s ≡ Wire None → Says n (with_kind n s (Wire (Some c)))
says_cell n s c e = says_set n s (Wire (Some c)) (λ v w. subst (KindHolds v w) (sym e) tt)

pub says_next : (n : Netlist) (r init m : ℕ) → kind_at n r ≡ Reg init None → Says n (with_kind n r (Reg init (Some m)))
says_next n r init m e = says_set n r (Reg init (Some m)) (λ v w. subst (KindHolds v w) (sym e) tt)

kind_set : (gs : List Signal) (s : ℕ) (k : Kind) (g : Signal) → slice_get gs s ≡ Some g → slice_get (set_kind gs s k) s ≡ Some (record { name = g.name; width = g.width; kind = k })
kind_set [] s k g e = absurd (cc)
kind_set (a ∷ gs) zero k g e = let p : a ≡ g = cc in ap (λ (y : Signal). Some (record { name = y.name; width = y.width; kind = k })) p
kind_set (a ∷ gs) (suc s) k g e = kind_set gs s k g e
