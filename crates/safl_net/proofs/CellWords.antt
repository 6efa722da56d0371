-- The word of a cell.
use Rattle.safl_net.proofs.Common.{Apply, CellFits, Const, Copy, Ext, HasWord, IsNetlist, Mux, Op, Primitive, apply_fits, apply_width}
use Rattle.safl_net.proofs.Common.{nat_tests, op_width, prim_width, result_width, signal_widths}
use Rattle.std.proofs.Common.{◌≡◌, ℕ, zero, suc, List, [], ◌∷◌, map, Some, None, Bool, true, false, cond, ◌==◌, ◌&&◌, slice_get, slice_index, refl, sym, ap, subst, ◌∙◌, arith}
use Rattle.safl_word.specs.Words.{Word, IsWord, AreWords, pick}
use Rattle.safl_word.proofs.Words.{word_eq}
use Rattle.safl_net.specs.Netlist.{Netlist, Signal, Kind, Input, Reg, Wire, Cell, width_in, width_of}
use Rattle.safl_net.specs.Valuations.{Valuation, cell_word, signal_word, Holds, Fits}
use Rattle.safl_net.specs.Growth.{KindHolds, Wired}

abbrev pub word_widths : List Word → List ℕ
word_widths vs = map (λ (v : Word). v.width) vs

picked : (P : Word → Type 0) (n : ℕ) (a b : Word) → P a → P b → P (pick n a b)
picked P zero a b p q = q
picked P (suc zero) a b p q = p
picked P (suc (suc n)) a b p q = q

mux_says : (c a b w : ℕ) → cond ((c == 1) && (a == b)) (Some a) None ≡ Some w → (a ≡ w) × (b ≡ w)
mux_says c a b w e = by (c == 1) (a == b) e (grind (arith, nat_tests))
  where
    by : (p q : Bool) → cond (p && q) (Some a) None ≡ Some w → (q ≡ true → a ≡ b) → (a ≡ w) × (b ≡ w)
    by true true e h = let f : a ≡ w = cc in (f, sym (h refl) ∙ f)
    by true false e h = absurd (cc)
    by false q e h = absurd (cc)

pub prim_says : (p : Primitive) (ws : List ℕ) (w : ℕ) → prim_width p ws ≡ Some w → result_width p ws ≡ Some w
prim_says (Ext n) ws w e = absurd (cc)
prim_says p ws w e = e

-- it has the width that the operation says
pub cell_width : (op : Op) (vs : List Word) (w : ℕ) → op_width op (word_widths vs) ≡ Some w → (cell_word op vs).width ≡ w
cell_width (Const c) [] w e = cc
cell_width (Const c) (a ∷ vs) w e = absurd (cc)
cell_width Copy [] w e = absurd (cc)
cell_width Copy (a ∷ []) w e = cc
cell_width Copy (a ∷ (b ∷ vs)) w e = absurd (cc)
cell_width Mux [] w e = absurd (cc)
cell_width Mux (a ∷ []) w e = absurd (cc)
cell_width Mux (a ∷ (b ∷ [])) w e = absurd (cc)
cell_width Mux (c ∷ (a ∷ (b ∷ []))) w e =
    let q = mux_says c.width a.width b.width w e in
    picked (λ x. x.width ≡ w) c.bits a b q.0 q.1
cell_width Mux (c ∷ (a ∷ (b ∷ (d ∷ vs)))) w e = absurd (cc)
cell_width (Apply p) vs w e = apply_width p vs w (prim_says p (word_widths vs) w e)

-- and is a word where its operands are
pub cell_is_word : (op : Op) (vs : List Word) (w : ℕ) → AreWords vs → HasWord op → op_width op (word_widths vs) ≡ Some w → IsWord (cell_word op vs)
cell_is_word (Const c) vs w h k e = k
cell_is_word Copy [] w h k e = absurd (cc)
cell_is_word Copy (a ∷ []) w h k e = h.0
cell_is_word Copy (a ∷ (b ∷ vs)) w h k e = absurd (cc)
cell_is_word Mux [] w h k e = absurd (cc)
cell_is_word Mux (a ∷ []) w h k e = absurd (cc)
cell_is_word Mux (a ∷ (b ∷ [])) w h k e = absurd (cc)
cell_is_word Mux (c ∷ (a ∷ (b ∷ []))) w h k e = picked IsWord c.bits a b h.1.0 h.1.1.0
cell_is_word Mux (c ∷ (a ∷ (b ∷ (d ∷ vs)))) w h k e = absurd (cc)
cell_is_word (Apply p) vs w h k e = apply_fits p vs w h (prim_says p (word_widths vs) w e)

pub shown_widths : (n : Netlist) (v : Valuation) (xs : List ℕ) → word_widths (map (signal_word n v) xs) ≡ signal_widths n xs
shown_widths n v [] = refl
shown_widths n v (x ∷ xs) = ap (λ l. width_of n x ∷ l) (shown_widths n v xs)

kind_shown : (n : Netlist) (v : Valuation) (state s : ℕ) (g : Signal) (k : Kind) → width_of n s ≡ g.width →
    ((c : Cell) → k ≡ Wire (Some c) → CellFits n g.width c) → Holds n v state (slice_index v s) k → KindHolds (signal_word n v) (signal_word n v s) k
kind_shown n v state s g Input e f h = tt
kind_shown n v state s g (Reg init next) e f h = tt
kind_shown n v state s g (Wire None) e f h = tt
kind_shown n v state s g (Wire (Some c)) e f h =
    let k = f c refl in
    let q = cell_width c.op (map (signal_word n v) c.operands) g.width (ap (op_width c.op) (shown_widths n v c.operands) ∙ k.gives) in
    word_eq (signal_word n v s) (cell_word c.op (map (signal_word n v) c.operands)) (e ∙ sym q) h

pub cell_of_net : (n : Netlist) (s : ℕ) (g : Signal) → IsNetlist n → slice_get n.signals s ≡ Some g → (c : Cell) → g.kind ≡ Wire (Some c) → CellFits n g.width c
cell_of_net n s g w e c f = from g.kind f (w.signals s g e).kind
  where
    from : (k : Kind) → k ≡ Wire (Some c) → Rattle.safl_net.specs.Rules.KindFits n g.width k → CellFits n g.width c
    from k f h = subst (λ x. Rattle.safl_net.specs.Rules.KindFits n g.width x) f h

-- a list of numbers that fits gives each number its word
pub wired_shown : (n : Netlist) (state : ℕ → ℕ) (v : Valuation) → IsNetlist n → Fits n state v → Wired n (signal_word n v)
wired_shown n state v w h = record {
  each = λ s g e.
      let f = h.each s g e in
      let q : width_of n s ≡ g.width = ap width_in e in
      record { width = q; bits = f.0; kind = kind_shown n v (state s) s g g.kind q (cell_of_net n s g w e) f.1 };
}
