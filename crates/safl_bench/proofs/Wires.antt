-- Wires of one bit.
use Rattle.std.proofs.Common.{◌≡◌, ℕ, suc, ◌+◌, ◌<◌, ◌≤◌, List, [], ◌∷◌, length, length-append, All, Some, Result, Ok, Err, IfOk, OnOk, OnErr, false, ◌⊎◌, inl, inr, sym, ap, subst, ◌∙◌, arith}
use Rattle.std.proofs.lemmas.Bool.{cases_lt}
use Rattle.safl_net.specs.declared.cell.Sig.{Sig}
use Rattle.safl_net.specs.declared.cell.Op.{Op}
use Rattle.safl_net.specs.Netlist.{Netlist}
use Rattle.safl_net.specs.Names.{is_temp, IsTidy}
use Rattle.safl_net.specs.Widths.{op_width}
use Rattle.safl_net.specs.Making.{with_signal, with_output, temporary}
use Rattle.safl_net.specs.Growth.{Sized, width_at}
use Rattle.safl_net.proofs.Growth.{width_kept, length_kept, made, Made, sized_gives}
use Rattle.safl_net.proofs.Tidy.{tidy_output}
use Rattle.safl_bench.specs.Bits.{OfBits, ones}

pub sized : (n : Netlist) → OfBits n → (xs : List Sig) → All (λ s. s.0 < length n.signals) xs → Sized n xs (ones (length xs))
sized n h [] k = tt
sized n h (x ∷ xs) k = (h.bit x.0 (k 0 x (omega arith)), sized n h xs (λ i d l. k (suc i) d (omega (arith, l))))

-- the last signal is new, and the others are those of before
last_or_before : (n m : Netlist) (s t : ℕ) → t < length m.signals → length m.signals ≤ length n.signals + 1 → s ≡ length n.signals → (t < length n.signals) ⊎ (t ≡ s)
last_or_before n m s t a b e = by (cases_lt t (length n.signals))
  where
    by : (t < length n.signals) ⊎ (length n.signals ≤ t) → (t < length n.signals) ⊎ (t ≡ s)
    by (inl l) = inl l
    by (inr l) = inr (omega (arith, a, b, e, l))

bits_on : {E : Type 0} (n m : Netlist) (r : Result Sig E) (op : Op) (xs : List Sig) → OfBits n → Made n m r 1 op xs → IfOk r (λ s. s.0 ≡ length n.signals) → OnErr r (m ≡ n) → IsTidy m → OfBits m
bits_on n m (Ok s) op xs h k f g t = record {
  tidy = t;
  some = (let a = h.some in let b = length_kept k.grows in omega (arith, a, b));
  bit = λ u l. elim (last_or_before n m s.0 u l k.count f) [
    | inl a ↦ width_kept k.grows u 1 (h.bit u a)
    | inr e ↦ ap (width_at m) e ∙ k.width
  ];
}
bits_on n m (Err e) op xs h k f g t = subst OfBits (sym g) h

pub made_bits : {E : Type 0} (n m : Netlist) (r : Result Sig E) (op : Op) (xs : List Sig) → OfBits n → All (λ s. s.0 < length n.signals) xs → op_width op (ones (length xs)) ≡ Some 1
    → OnOk r (m ≡ with_signal n (temporary n op xs)) → IfOk r (λ s. s.0 ≡ length n.signals) → OnErr r (m ≡ n) → IsTidy m → OfBits m
made_bits n m r op xs h k w a b d t = bits_on n m r op xs h (made n m r 1 op xs (sized_gives n op xs (ones (length xs)) 1 (sized n h xs k) w) a b d) b d t

pub last_in : {E : Type 0} (n m : Netlist) (r : Result Sig E) (op : Op) (xs : List Sig) → OnOk r (m ≡ with_signal n (temporary n op xs)) → IfOk r
    (λ s. s.0 ≡ length n.signals) → IfOk r (λ s. s.0 < length m.signals)
last_in n m (Ok s) op xs e f = let x = ap (λ (k : Netlist). length k.signals) e ∙ length-append n.signals (temporary n op xs ∷ []) in omega (arith, x, f)
last_in n m (Err e) op xs f g = tt

pub same_outputs : {E : Type 0} (n m : Netlist) (r : Result Sig E) (op : Op) (xs : List Sig) → OnOk r (m ≡ with_signal n (temporary n op xs)) → OnErr r (m ≡ n) → m.outputs ≡ n.outputs
same_outputs n m (Ok s) op xs e f = ap (λ (k : Netlist). k.outputs) e
same_outputs n m (Err e) op xs f g = ap (λ (k : Netlist). k.outputs) g

pub shown_tidy : (n m : Netlist) (name : List ℕ) (s : ℕ) → m ≡ with_output n name s → is_temp name ≡ false → IsTidy n → IsTidy m
shown_tidy n m name s e t h = subst IsTidy (sym e) (tidy_output n name s h t)
