-- A net that grows.
use Rattle.safl_net.proofs.Common.{Input, Kind, Netlist, Op, Reg, Sig, Signal, Wire, op_width, width_in, width_of}
use Rattle.std.proofs.Common.{◌≡◌, ℕ, zero, suc, ◌+◌, ◌<◌, ◌≤◌, ◌^◌, List, [], ◌∷◌, ◌++◌, map, length, length-append, All, Option, Some, None, Result}
use Rattle.std.proofs.Common.{Ok, Err, IfOk, OnOk, OnErr, IsSome, is_some, unwrap_or, slice_get, slice_index_or, refl, sym, ap, subst, ◌∙◌, arith}
use Rattle.std.proofs.Common.{append_assoc}
use Rattle.std.proofs.lemmas.List.{append-nil}
use Rattle.safl_word.proofs.Lists.{get_end, get_front}
use Rattle.safl_net.specs.Valuations.{cell_word}
use Rattle.safl_net.specs.Names.{one_wire, wires}
use Rattle.safl_net.specs.Making.{with_signal, numbers, signal_widths, width_on, temporary}
use Rattle.safl_net.specs.Growth.{Val, words, SignalHolds, Wired, maybe_width, width_at, Sized, HasCell, AreTemps, Grows}

-- ---- growing

pub grows_none : (n : Netlist) → Grows n n
grows_none n = record { more = []; is = sym (append-nil n.signals); temps = tt; outputs = refl }

pub grows_same : (n m : Netlist) → m ≡ n → Grows n m
grows_same n m e = subst (λ k. Grows n k) (sym e) (grows_none n)

pub wires_append : (xs ys : List Signal) → wires (xs ++ ys) ≡ wires xs + wires ys
wires_append [] ys = omega arith
wires_append (x ∷ xs) ys = let e = wires_append xs ys in omega (arith, e)

one_of_cell : (k : Kind) → HasCell k → one_wire k ≡ 1
one_of_cell Input h = absurd h
one_of_cell (Reg init next) h = absurd h
one_of_cell (Wire None) h = absurd h
one_of_cell (Wire (Some c)) h = refl

temps_length : (i : ℕ) (gs : List Signal) → AreTemps i gs → wires gs ≡ length gs
temps_length i [] h = refl
temps_length i (g ∷ gs) h = let a = one_of_cell g.kind h.1 in let b = temps_length (suc i) gs h.2 in omega (arith, a, b)

temps_append : (i j : ℕ) (xs ys : List Signal) → AreTemps i xs → j ≡ i + length xs → AreTemps j ys → AreTemps i (xs ++ ys)
temps_append i j [] ys h e k = subst (λ a. AreTemps a ys) (let q : j ≡ i = omega (arith, e) in q) k
temps_append i j (x ∷ xs) ys h e k = (h.0, h.1, temps_append (suc i) j xs ys h.2 (omega (arith, e)) k)

pub grows_on : {a b c : Netlist} → Grows a b → Grows b c → Grows a c
grows_on {a} {b} {c} g h = record {
  more = g.more ++ h.more;
  is = h.is ∙ ap (λ l. l ++ h.more) g.is ∙ append_assoc a.signals g.more h.more;
  temps =
      let e = ap wires g.is ∙ wires_append a.signals g.more in
      let f = temps_length (wires a.signals) g.more g.temps in
      temps_append (wires a.signals) (wires b.signals) g.more h.more g.temps (omega (arith, e, f)) h.temps;
  outputs = h.outputs ∙ g.outputs;
}

pub grows_temp : (n m : Netlist) (op : Op) (xs : List Sig) → m ≡ with_signal n (temporary n op xs) → Grows n m
grows_temp n m op xs e = subst (λ k. Grows n k) (sym e) (record { more = temporary n op xs ∷ []; is = refl; temps = (refl, tt, tt); outputs = refl })

pub get_kept : {a b : Netlist} → Grows a b → (s : ℕ) (g : Signal) → slice_get a.signals s ≡ Some g → slice_get b.signals s ≡ Some g
get_kept {a} {b} h s g e = subst (λ l. slice_get l s ≡ Some g) (sym h.is) (get_front a.signals h.more s g e)

-- each valuation that obeys the larger net obeys the smaller one
pub wired_before : {a b : Netlist} → Grows a b → {v : Val} → Wired b v → Wired a v
wired_before h w = record { each = λ s g e. w.each s g (get_kept h s g e) }

pub width_front : (xs ys : List Signal) (s w : ℕ) → maybe_width (slice_get xs s) ≡ Some w → maybe_width (slice_get (xs ++ ys) s) ≡ Some w
width_front [] ys s w e = absurd (cc)
width_front (x ∷ xs) ys zero w e = e
width_front (x ∷ xs) ys (suc s) w e = width_front xs ys s w e

pub width_kept : {a b : Netlist} → Grows a b → (s w : ℕ) → width_at a s ≡ Some w → width_at b s ≡ Some w
width_kept {a} {b} h s w e = subst (λ l. maybe_width (slice_get l s) ≡ Some w) (sym h.is) (width_front a.signals h.more s w e)

pub length_kept : {a b : Netlist} → Grows a b → length a.signals ≤ length b.signals
length_kept {a} {b} h = let e = ap length h.is in let f = length-append a.signals h.more in omega (arith, e, f)

pub sized_kept : {a b : Netlist} → Grows a b → (xs : List Sig) (ws : List ℕ) → Sized a xs ws → Sized b xs ws
sized_kept h [] [] s = tt
sized_kept h [] (w ∷ ws) s = absurd s
sized_kept h (x ∷ xs) [] s = absurd s
sized_kept h (x ∷ xs) (w ∷ ws) s = (width_kept h x.0 w s.0, sized_kept h xs ws s.1)

pub sized_more : (n : Netlist) (xs ys : List Sig) (us ws : List ℕ) → Sized n xs us → Sized n ys ws → Sized n (xs ++ ys) (us ++ ws)
sized_more n [] ys [] ws a b = b
sized_more n [] ys (u ∷ us) ws a b = absurd a
sized_more n (x ∷ xs) ys [] ws a b = absurd a
sized_more n (x ∷ xs) ys (u ∷ us) ws a b = (a.0, sized_more n xs ys us ws a.1 b)

-- ---- what `temp` asks, and what it gives

in_net : (gs : List Signal) (s w : ℕ) → maybe_width (slice_get gs s) ≡ Some w → s < length gs
in_net [] s w e = absurd (cc)
in_net (g ∷ gs) zero w e = omega arith
in_net (g ∷ gs) (suc s) w e = let h = in_net gs s w e in omega (arith, h)

pub within : (n : Netlist) (s w : ℕ) → width_at n s ≡ Some w → s < length n.signals
within n s w e = in_net n.signals s w e

width_same : (o : Option Signal) (w : ℕ) → maybe_width o ≡ Some w → width_in o ≡ w
width_same None w e = absurd (cc)
width_same (Some g) w e = cc

pub width_is : (n : Netlist) (s w : ℕ) → width_at n s ≡ Some w → width_of n s ≡ w
width_is n s w e = width_same (slice_get n.signals s) w e

pub sized_known : (n : Netlist) (xs : List Sig) (ws : List ℕ) → Sized n xs ws → All (λ s. s.0 < length n.signals) xs
sized_known n [] ws h = λ i d l. absurd (omega arith)
sized_known n (x ∷ xs) [] h = absurd h
sized_known n (x ∷ xs) (w ∷ ws) h = λ i d l. by i d l (within n x.0 w h.0) (sized_known n xs ws h.1)
  where
    by : (i : ℕ) (d : Sig) → i < length (x ∷ xs) → x.0 < length n.signals → All (λ s. s.0 < length n.signals) xs → (slice_index_or (x ∷ xs) i d).0 < length n.signals
    by zero d l a b = a
    by (suc i) d l a b = b i d (omega (arith, l))

pub sized_widths : (n : Netlist) (xs : List Sig) (ws : List ℕ) → Sized n xs ws → signal_widths n (numbers xs) ≡ ws
sized_widths n [] [] h = refl
sized_widths n [] (w ∷ ws) h = absurd h
sized_widths n (x ∷ xs) [] h = absurd h
sized_widths n (x ∷ xs) (w ∷ ws) h = ap (λ a. a ∷ signal_widths n (numbers xs)) (width_is n x.0 w h.0) ∙ ap (λ l. w ∷ l) (sized_widths n xs ws h.1)

pub sized_gives : (n : Netlist) (op : Op) (xs : List Sig) (ws : List ℕ) (w : ℕ) → Sized n xs ws → op_width op ws ≡ Some w → width_on n op xs ≡ Some w
sized_gives n op xs ws w h e = ap (op_width op) (sized_widths n xs ws h) ∙ e

pub sized_fits : (n : Netlist) (op : Op) (xs : List Sig) (ws : List ℕ) (w : ℕ) → Sized n xs ws → op_width op ws ≡ Some w → IsSome (width_on n op xs)
sized_fits n op xs ws w h e = ap is_some (sized_gives n op xs ws w h e)

pub get_new : (n m : Netlist) (g : Signal) (s : ℕ) → m ≡ with_signal n g → s ≡ length n.signals → slice_get m.signals s ≡ Some g
get_new n m g s e f = ap (λ k. slice_get k.signals s) e ∙ ap (slice_get (n.signals ++ g ∷ [])) f ∙ get_end n.signals g

words_are : (v : Val) (xs : List Sig) → map v (numbers xs) ≡ words v xs
words_are v [] = refl
words_are v (x ∷ xs) = ap (λ l. v x.0 ∷ l) (words_are v xs)

-- what a caller of `temp` has
pub record Made {E : Type 0} (n m : Netlist) (r : Result Sig E) (w : ℕ) (op : Op) (xs : List Sig) : Type 0 where
  pub grows : Grows n m
  pub count : length m.signals ≤ length n.signals + 1
  pub width : IfOk r (λ s. width_at m s.0 ≡ Some w)
  pub word : IfOk r (λ s. (v : Val) → Wired m v → v s.0 ≡ cell_word op (words v xs))

pub made : {E : Type 0} (n m : Netlist) (r : Result Sig E) (w : ℕ) (op : Op) (xs : List Sig) → width_on n op xs ≡ Some w
    → OnOk r (m ≡ with_signal n (temporary n op xs)) → IfOk r (λ s. s.0 ≡ length n.signals) → OnErr r (m ≡ n) → Made n m r w op xs
made n m (Ok s) w op xs q a b c =
    let new = get_new n m (temporary n op xs) s.0 a b in
    record {
      grows = grows_temp n m op xs a;
      count = let e = ap (λ (k : Netlist). length k.signals) a ∙ length-append n.signals (temporary n op xs ∷ []) in omega (arith, e);
      width = ap maybe_width new ∙ ap (λ o. Some (unwrap_or o 0)) q;
      word = λ v h. (h.each s.0 _ new).kind ∙ ap (cell_word op) (words_are v xs);
    }
made n m (Err e) w op xs q a b c = record {
  grows = grows_same n m c;
  count = let e = ap (λ (k : Netlist). length k.signals) c in omega (arith, e);
  width = tt;
  word = tt;
}

-- ---- words

pub record Fitting (v : Val) (s w : ℕ) : Type 0 where
  pub width : (v s).width ≡ w
  pub bits : (v s).bits < 2 ^ w

fitting : (v : Val) (s w : ℕ) (o : Option Signal) → ((g : Signal) → o ≡ Some g → SignalHolds v (v s) g) → maybe_width o ≡ Some w → Fitting v s w
fitting v s w None h e = absurd (cc)
fitting v s w (Some g) h e =
    let k = h g refl in
    let q : g.width ≡ w = cc in
    record { width = k.width ∙ q; bits = subst (λ x. (v s).bits < 2 ^ x) q k.bits }

-- a signal's word has the signal's width
pub fits : (n : Netlist) (v : Val) (s w : ℕ) → Wired n v → width_at n s ≡ Some w → Fitting v s w
fits n v s w h e = fitting v s w (slice_get n.signals s) (h.each s) e
