-- The width of an operation's word is 1 to 128, where its operands' widths are.
use Rattle.safl_net.proofs.Common.{Apply, Const, Copy, Ext, HasWord, IsNetlist, Mux, Netlist, Op, Primitive, Signal, apply_fits}
use Rattle.safl_net.proofs.Common.{apply_width, op_width, prim_width, result_width, signal_widths, width_in}
use Rattle.std.proofs.Common.{◌≡◌, ℕ, zero, suc, ◌<◌, ◌≤◌, List, [], ◌∷◌, map, length, All, Option, Some, None, Bool, true, false, cond, ◌==◌, ◌&&◌, slice_get, refl, ap, subst, ◌∙◌, arith}
use Rattle.std.proofs.lemmas.Nat.{pow_pos}
use Rattle.safl_word.specs.Words.{Word, AreWords}

pub record IsWidth (w : ℕ) : Type 0 where
  pub some : 1 ≤ w
  pub most : w ≤ 128

abbrev pub AreWidths : List ℕ → Type 0
AreWidths [] = Unit {0}
AreWidths (w ∷ ws) = IsWidth w × AreWidths ws

abbrev zeros : List ℕ → List Word
zeros ws = map (λ (w : ℕ). record { width = w; bits = 0 }) ws

zeros_words : (ws : List ℕ) → AreWidths ws → AreWords (zeros ws)
zeros_words [] h = tt
zeros_words (w ∷ ws) h = (record { some = h.0.some; bounded = h.0.most; fits = pow_pos w }, zeros_words ws h.1)

zeros_widths : (ws : List ℕ) → map (λ (v : Word). v.width) (zeros ws) ≡ ws
zeros_widths [] = refl
zeros_widths (w ∷ ws) = ap (λ l. w ∷ l) (zeros_widths ws)

from_table : (p : Primitive) (ws : List ℕ) (w : ℕ) → AreWidths ws → result_width p ws ≡ Some w → IsWidth w
from_table p ws w h e =
    let f = ap (result_width p) (zeros_widths ws) ∙ e in
    let k = apply_fits p (zeros ws) w (zeros_words ws h) f in
    let q = apply_width p (zeros ws) w f in
    let a = k.some in
    let b = k.bounded in
    record { some = omega (arith, a, q); most = omega (arith, b, q) }

from_prim : (p : Primitive) (ws : List ℕ) (w : ℕ) → AreWidths ws → prim_width p ws ≡ Some w → IsWidth w
from_prim (Ext n) ws w h e = absurd (cc)
from_prim p ws w h e = from_table p ws w h e

from_mux : (b : Bool) (a w : ℕ) → IsWidth a → cond b (Some a) None ≡ Some w → IsWidth w
from_mux true a w h e = let q : a ≡ w = cc in subst IsWidth q h
from_mux false a w h e = absurd (cc)

pub op_bounds : (op : Op) (ws : List ℕ) (w : ℕ) → AreWidths ws → HasWord op → op_width op ws ≡ Some w → IsWidth w
op_bounds (Const c) [] w h k e = let q : c.width ≡ w = cc in subst IsWidth q (record { some = k.some; most = k.bounded })
op_bounds (Const c) (a ∷ ws) w h k e = absurd (cc)
op_bounds Copy [] w h k e = absurd (cc)
op_bounds Copy (a ∷ []) w h k e = let q : a ≡ w = cc in subst IsWidth q h.0
op_bounds Copy (a ∷ (b ∷ ws)) w h k e = absurd (cc)
op_bounds Mux [] w h k e = absurd (cc)
op_bounds Mux (a ∷ []) w h k e = absurd (cc)
op_bounds Mux (a ∷ (b ∷ [])) w h k e = absurd (cc)
op_bounds Mux (c ∷ (a ∷ (b ∷ []))) w h k e = from_mux ((c == 1) && (a == b)) a w h.1.0 e
op_bounds Mux (c ∷ (a ∷ (b ∷ (d ∷ ws)))) w h k e = absurd (cc)
op_bounds (Apply p) ws w h k e = from_prim p ws w h e

signal_width : (n : Netlist) (o : Option Signal) (s : ℕ) → slice_get n.signals s ≡ o → IsNetlist n → s < length n.signals → IsWidth (width_in o)
signal_width n None s e k h = absurd (no_get n.signals s h e)
  where
    no_get : (gs : List Signal) (s : ℕ) → s < length gs → slice_get gs s ≡ None → ⊥
    no_get [] s h e = omega arith
    no_get (g ∷ gs) zero h e = cc
    no_get (g ∷ gs) (suc s) h e = no_get gs s (omega (arith, h)) e
signal_width n (Some g) s e k h = let f = k.signals s g e in record { some = f.some; most = f.most }

pub widths_are : (n : Netlist) (xs : List ℕ) → IsNetlist n → All (λ s. s < length n.signals) xs → AreWidths (signal_widths n xs)
widths_are n [] k h = tt
widths_are n (x ∷ xs) k h = (signal_width n (slice_get n.signals x) x refl k (h 0 0 (omega arith)), widths_are n xs k (λ i d l. h (suc i) d (omega (arith, l))))
