-- What is read under a name, as the word of a signal.
use Rattle.safl_net.proofs.Common.{IsNetlist, KindFits, bytes_eq-Decides}
use Rattle.std.proofs.Common.{◌≡◌, ℕ, zero, suc, ◌+◌, List, [], ◌∷◌, Option, Some, Bool, true, false, cond, bytes_eq, slice_get, slice_index, refl, sym, ap, subst, ◌∙◌, arith}
use Rattle.safl_net.specs.Netlist.{Netlist, Signal, Reg, width_in, width_of, place, output_place}
use Rattle.safl_net.specs.Valuations.{Valuation, Holds, Fits, signal_word, kind_next, next_number, next_state, number_at, read, read_output}

-- ---- a name that stands once is found where it stands

signal_first : (gs : List Signal) (i s : ℕ) (g : Signal) → ((a b : ℕ) (x y : Signal) → slice_get gs a ≡ Some x → slice_get gs b ≡ Some y → x.name ≡
    y.name → a ≡ b) → slice_get gs s ≡ Some g → place gs g.name i ≡ Some (i + s)
unfolding place
signal_first [] i s g own e = absurd (cc)
signal_first (x ∷ gs) i zero g own e =
    let q : x ≡ g = cc in
    let here = (bytes_eq-Decides x.name g.name).1 (ap (λ (y : Signal). y.name) q) in
    let p : i ≡ i + 0 = omega arith in
    ap (λ b. cond b (Some i) (place gs g.name (suc i))) here ∙ ap Some p
signal_first (x ∷ gs) i (suc s) g own e = by (bytes_eq x.name g.name) refl (signal_first gs (suc i) s g (λ a b y z p q r. let h = own (suc a) (suc b) y z p q r in omega (arith, h)) e)
  where
    plus : suc i + s ≡ i + suc s
    plus = omega arith

    by : (b : Bool) → bytes_eq x.name g.name ≡ b → place gs g.name (suc i) ≡ Some (suc i + s) → cond b (Some i) (place gs g.name (suc i)) ≡ Some (i + suc s)
    by true q h = let z = own 0 (suc s) x g refl e ((bytes_eq-Decides x.name g.name).0 q) in absurd (omega (arith, z))
    by false q h = h ∙ ap Some plus

output_first : (os : List (List ℕ × ℕ)) (i : ℕ) (o : List ℕ × ℕ) →
    ((a b : ℕ) (x y : List ℕ × ℕ) → slice_get os a ≡ Some x → slice_get os b ≡ Some y → x.0 ≡ y.0 → a ≡ b) → slice_get os i ≡ Some o → output_place os o.0 ≡ Some o.1
output_first [] i o own e = absurd (cc)
output_first (x ∷ os) zero o own e =
    let q : x ≡ o = cc in
    let here = (bytes_eq-Decides x.0 o.0).1 (ap (λ (y : List ℕ × ℕ). y.0) q) in
    ap (λ b. cond b (Some x.1) (output_place os o.0)) here ∙ ap (λ (y : List ℕ × ℕ). Some y.1) q
output_first (x ∷ os) (suc i) o own e = by (bytes_eq x.0 o.0) refl (output_first os i o (λ a b y z p q r. let h = own (suc a) (suc b) y z p q r in omega (arith, h)) e)
  where
    by : (b : Bool) → bytes_eq x.0 o.0 ≡ b → output_place os o.0 ≡ Some o.1 → cond b (Some x.1) (output_place os o.0) ≡ Some o.1
    by true q h = let z = own 0 (suc i) x o refl e ((bytes_eq-Decides x.0 o.0).0 q) in absurd (omega (arith, z))
    by false q h = h

pub place_of : (n : Netlist) (s : ℕ) (g : Signal) → IsNetlist n → slice_get n.signals s ≡ Some g → place n.signals g.name 0 ≡ Some s
place_of n s g k e = let p : 0 + s ≡ s = omega arith in signal_first n.signals 0 s g k.apart e ∙ ap Some p

pub output_place_of : (n : Netlist) (i : ℕ) (o : List ℕ × ℕ) → IsNetlist n → slice_get n.outputs i ≡ Some o → output_place n.outputs o.0 ≡ Some o.1
output_place_of n i o k e = output_first n.outputs i o k.outputs_apart e

-- ---- in a cycle

pub read_word : (n : Netlist) (v : Valuation) (s : ℕ) (g : Signal) → IsNetlist n → slice_get n.signals s ≡ Some g → read n v g.name ≡ (signal_word n v s).bits
read_word n v s g k e = ap (number_at v) (place_of n s g k e)

pub read_output_word : (n : Netlist) (v : Valuation) (i : ℕ) (o : List ℕ × ℕ) → IsNetlist n → slice_get n.outputs i ≡ Some o → read_output n v o.0 ≡ (signal_word n v o.1).bits
read_output_word n v i o k e = ap (number_at v) (output_place_of n i o k e)

-- ---- from a cycle to the next

next_number_of : (n : Netlist) (v : Valuation) (s init m : ℕ) (g : Signal) → slice_get n.signals s ≡ Some g → g.kind ≡ Reg init (Some m) → next_state n v s ≡ slice_index v m
next_number_of n v s init m g e is = ap (next_number v) e ∙ ap (kind_next v) is

held : (n : Netlist) (state : ℕ → ℕ) (w : Valuation) (s init : ℕ) (next : Option ℕ) (g : Signal) → Fits n state w → slice_get n.signals s ≡ Some g → g.kind ≡ Reg init next → slice_index w s ≡ state s
held n state w s init next g f e is = subst (λ k. Holds n w (state s) (slice_index w s) k) is (f.each s g e).1

pub next_word : (n : Netlist) (v w : Valuation) (s init m : ℕ) (g : Signal) → IsNetlist n → Fits n (next_state n v) w → slice_get n.signals s ≡ Some g
    → g.kind ≡ Reg init (Some m) → signal_word n w s ≡ signal_word n v m
next_word n v w s init m g k f e is =
    let fits : KindFits n g.width (Reg init (Some m)) = subst (KindFits n g.width) is (k.signals s g e).kind in
    let wide : width_of n s ≡ width_of n m = ap width_in e ∙ sym fits.2 in
    let bits : slice_index w s ≡ slice_index v m = held n (next_state n v) w s init (Some m) g f e is ∙ next_number_of n v s init m g e is in
    ap (λ (x : ℕ). record { width = x; bits = slice_index w s }) wide ∙ ap (λ (x : ℕ). record { width = width_of n m; bits = x }) bits
