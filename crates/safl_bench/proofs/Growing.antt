-- Wires, one after the other.
use Rattle.std.proofs.Common.{◌≡◌, ℕ, ◌+◌, ◌-◌, ◌<◌, ◌≤◌, List, [], ◌∷◌, length, OnOk, OnErr, Some, Result, Ok, Err}
use Rattle.std.proofs.Common.{IfOk, refl, ap, ◌∙◌, eq-eqb, le-leb, lt-ltb, arith}
use Rattle.safl_word.specs.declared.primitive.Primitive.TheVariants.{Not, Cat, Bits}
use Rattle.safl_word.specs.Primitives.{equal_widths}
use Rattle.safl_word.proofs.Widths.{within}
use Rattle.safl_net.specs.declared.cell.Sig.{Sig}
use Rattle.safl_net.specs.declared.cell.Op.{Op}
use Rattle.safl_net.specs.declared.cell.Op.TheVariants.{Apply}
use Rattle.safl_net.specs.Netlist.{Netlist}
use Rattle.safl_net.specs.Names.{IsTidy}
use Rattle.safl_net.specs.Widths.{op_width}
use Rattle.safl_net.specs.Making.{with_signal, temporary}
use Rattle.safl_net.specs.Growth.{Sized}
use Rattle.safl_net.proofs.Growth.{grows_on, width_kept, Made, made, sized_gives}
use Rattle.safl_bench.specs.declared.turns.Ends.{Ends}
use Rattle.safl_bench.specs.WideNets.{Has, Gives, Turns}

pub kept : {a b : Netlist} {k u : ℕ} {s : Sig} → Gives a b k u s → (w : ℕ) (t : Sig) → Has a w t → Has b w t
kept g w t h = width_kept g.grows t.0 w h

-- ---- one wire

gives_one : {E : Type 0} (n m : Netlist) (r : Result Sig E) (op : Op) (xs : List Sig) (w : ℕ) → Made n m r w op xs → IsTidy m → IfOk r (Gives n m 1 w)
gives_one n m (Ok s) op xs w k t = record { tidy = t; grows = k.grows; more = k.count; has = k.width }
gives_one n m (Err e) op xs w k t = tt

pub made_one : {E : Type 0} (n m : Netlist) (r : Result Sig E) (op : Op) (xs : List Sig) (ws : List ℕ) (w : ℕ) → Sized n xs ws → op_width op ws ≡ Some w
    → OnOk r (m ≡ with_signal n (temporary n op xs)) → IfOk r (λ s. s.0 ≡ length n.signals) → OnErr r (m ≡ n) → IsTidy m → IfOk r (Gives n m 1 w)
made_one n m r op xs ws w p q a b d t = gives_one n m r op xs w (made n m r w op xs (sized_gives n op xs ws w p q) a b d) t

-- ---- several

pub gives_on : {a b c : Netlist} {k u j v : ℕ} {s t : Sig} → Gives a b k u s → Gives b c j v t → Gives a c (k + j) v t
gives_on g h = record {
  tidy = h.tidy;
  grows = grows_on g.grows h.grows;
  more = (let x = g.more in let y = h.more in omega (arith, x, y));
  has = h.has;
}

pub gives_more : {a b : Netlist} {k w : ℕ} {s : Sig} (j : ℕ) → k ≤ j → Gives a b k w s → Gives a b j w s
gives_more j l g = record {
  tidy = g.tidy;
  grows = g.grows;
  more = (let x = g.more in omega (arith, x, l));
  has = g.has;
}

pub ok_on : {E : Type 0} {a b : Netlist} {k u : ℕ} {s : Sig} (c : Netlist) (j v : ℕ) (r : Result Sig E) → Gives a b k u s → IfOk r (Gives b c j v) → IfOk r (Gives a c (k + j) v)
ok_on c j v (Ok t) g h = gives_on g h
ok_on c j v (Err e) g h = tt

pub ok_more : {E : Type 0} (a b : Netlist) (k w j : ℕ) (r : Result Sig E) → k ≤ j → IfOk r (Gives a b k w) → IfOk r (Gives a b j w)
ok_more a b k w j (Ok s) l g = gives_more j l g
ok_more a b k w j (Err e) l g = tt

-- an operator, a comparison and what it chooses
pub chosen : {a b c d : Netlist} {w : ℕ} {word test last : Sig} → Gives a b 1 w word → Gives b c 1 1 test → Gives c d 1 w last → Turns a d 3 w (record { last = last; other = word })
chosen {a} {b} {c} {d} {w} {word} g h m = record {
  tidy = m.tidy;
  grows = grows_on (grows_on g.grows h.grows) m.grows;
  more = (let x = g.more in let y = h.more in let z = m.more in omega (arith, x, y, z));
  last = m.has;
  other = kept m w word (kept h w word g.has);
}

-- and a wire more
pub turned : {a b c : Netlist} {w : ℕ} {last : Sig} (e : Ends) → Turns a b 3 w e → Gives b c 3 w last → Turns a c 6 w (record { last = last; other = e.other })
turned {w = w} e t g = record {
  tidy = g.tidy;
  grows = grows_on t.grows g.grows;
  more = (let x = t.more in let y = g.more in omega (arith, x, y));
  last = g.has;
  other = kept g w e.other t.other;
}

-- ---- widths

pub alike_width : (w : ℕ) → 1 ≤ w → w ≤ 128 → equal_widths (w ∷ w ∷ []) ≡ Some w
alike_width w some most = rw (within w some most, eq-eqb w w refl) refl

pub not_width : (w : ℕ) → 1 ≤ w → w ≤ 128 → op_width (Apply Not) (w ∷ []) ≡ Some w
not_width w some most = rw (within w some most) refl

pub bits_width : (high low w : ℕ) → low ≤ high → high < w → w ≤ 128 → op_width (Apply (Bits high low)) (w ∷ []) ≡ Some (high - low + 1)
bits_width high low w a b most = rw (within w (omega (arith, b)) most, le-leb low high a, lt-ltb high w b) refl

pub cat_width : (u v : ℕ) → 1 ≤ u → 1 ≤ v → u + v ≤ 128 → op_width (Apply Cat) (u ∷ v ∷ []) ≡ Some (u + v)
cat_width u v a b h = rw (within u a (omega (arith, h)), within v b (omega (arith, h)), le-leb (u + v) 128 h) refl

-- ---- halves

pub low_width : (w h : ℕ) → 0 < h → h < w → w ≤ 128 → op_width (Apply (Bits (h - 1) 0)) (w ∷ []) ≡ Some h
low_width w h a b most = bits_width (h - 1) 0 w (omega arith) (omega (arith, b)) most ∙ ap Some (let e : h - 1 - 0 + 1 ≡ h = omega (arith, a) in e)

pub high_width : (w h : ℕ) → 0 < h → h < w → w ≤ 128 → op_width (Apply (Bits (w - 1) h)) (w ∷ []) ≡ Some (w - h)
high_width w h a b most = bits_width (w - 1) h w (omega (arith, b)) (omega (arith, b)) most ∙ ap Some (let e : w - 1 - h + 1 ≡ w - h = omega (arith, b) in e)

pub halves_width : (w h : ℕ) → 1 ≤ h → h < w → w ≤ 128 → op_width (Apply Cat) (h ∷ (w - h) ∷ []) ≡ Some w
halves_width w h some a b = cat_width h (w - h) some (omega (arith, a)) (omega (arith, a, b)) ∙ ap Some (let e : h + (w - h) ≡ w = omega (arith, a) in e)
