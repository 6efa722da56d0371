-- The inputs of a net, in order.
use Rattle.std.proofs.Common.{◌≡◌, ℕ, zero, suc, ◌+◌, ◌<◌, List, [], ◌∷◌, map, length, Some, slice_get, refl, sym, ap, ◌∙◌, arith}
use Rattle.std.proofs.lemmas.List.{length-map}
use Rattle.safl_word.specs.Words.{Word}
use Rattle.safl_word.proofs.Lists.{get_map, get_mapped}
use Rattle.safl_net.specs.declared.cell.Sig.{Sig}
use Rattle.safl_net.specs.Netlist.{Netlist, Signal, Kind, Input, Reg, Wire, width_of, with_input}
use Rattle.safl_net.specs.Making.{kind_at, kind_in, numbers}
use Rattle.safl_sim.specs.Places.{inputs_from, inputs_of, AreInputs}

-- the place of an input
pub record InputAt (gs : List Signal) (i s : ℕ) : Type 0 where
  pub from : ℕ
  pub is : s ≡ from + i
  pub within : from < length gs
  pub input : kind_in (slice_get gs from) ≡ Input

input_more : (g : Signal) (gs : List Signal) (i s : ℕ) → InputAt gs (suc i) s → InputAt (g ∷ gs) i s
input_more g gs i s h = record { from = suc h.from; is = (let a = h.is in omega (arith, a)); within = (let a = h.within in omega (arith, a)); input = h.input }

pub inputs_at : (gs : List Signal) (i k s : ℕ) → slice_get (inputs_from gs i) k ≡ Some s → InputAt gs i s
inputs_at [] i k s e = absurd (cc)
inputs_at (g ∷ gs) i k s e = on g.kind refl k e (λ k f. inputs_at gs (suc i) k s f)
  where
    on : (j : Kind) → g.kind ≡ j → (k : ℕ) → slice_get (with_input j i (inputs_from gs (suc i))) k ≡ Some s →
        ((k : ℕ) → slice_get (inputs_from gs (suc i)) k ≡ Some s → InputAt gs (suc i) s) → InputAt (g ∷ gs) i s
    on Input q zero e rest = record { from = 0; is = (let a : i ≡ s = cc in omega (arith, a)); within = omega arith; input = q }
    on Input q (suc k) e rest = input_more g gs i s (rest k e)
    on (Reg init next) q k e rest = input_more g gs i s (rest k e)
    on (Wire cell) q k e rest = input_more g gs i s (rest k e)

pub inputs_once : (gs : List Signal) (i j k s : ℕ) → slice_get (inputs_from gs i) j ≡ Some s → slice_get (inputs_from gs i) k ≡ Some s → j ≡ k
inputs_once [] i j k s e f = absurd (cc)
inputs_once (g ∷ gs) i j k s e f = on g.kind j k e f (λ j k e f. inputs_once gs (suc i) j k s e f)
  where
    on : (q : Kind) (j k : ℕ) → slice_get (with_input q i (inputs_from gs (suc i))) j ≡ Some s → slice_get (with_input q i (inputs_from gs (suc i))) k ≡ Some s
        → ((j k : ℕ) → slice_get (inputs_from gs (suc i)) j ≡ Some s → slice_get (inputs_from gs (suc i)) k ≡ Some s → j ≡ k) → j ≡ k
    on Input zero zero e f rest = refl
    on Input zero (suc k) e f rest = absurd (let a : i ≡ s = cc in let h = inputs_at gs (suc i) k s f in let b = h.is in omega (arith, a, b))
    on Input (suc j) zero e f rest = absurd (let a : i ≡ s = cc in let h = inputs_at gs (suc i) j s e in let b = h.is in omega (arith, a, b))
    on Input (suc j) (suc k) e f rest = ap suc (rest j k e f)
    on (Reg init next) j k e f rest = rest j k e f
    on (Wire cell) j k e f rest = rest j k e f

pub inputs_all : (gs : List Signal) (i s : ℕ) (g : Signal) → slice_get gs s ≡ Some g → g.kind ≡ Input → (k : ℕ) × (slice_get (inputs_from gs i) k ≡ Some (s + i))
inputs_all [] i s g e f = absurd (cc)
inputs_all (h ∷ gs) i zero g e f =
    let q : h ≡ g = cc in
    (0, ap (λ j. slice_get (with_input j i (inputs_from gs (suc i))) 0) (ap (λ (x : Signal). x.kind) q ∙ f) ∙ ap Some (let z : i ≡ 0 + i = omega arith in z))
inputs_all (h ∷ gs) i (suc s) g e f =
    let r = inputs_all gs (suc i) s g e f in
    on h.kind r.0 (r.1 ∙ ap Some (let z : s + suc i ≡ suc s + i = omega arith in z))
  where
    on : (j : Kind) (k : ℕ) → slice_get (inputs_from gs (suc i)) k ≡ Some (suc s + i) → (k : ℕ) × (slice_get (with_input j i (inputs_from gs (suc i))) k ≡ Some (suc s + i))
    on Input k q = (suc k, q)
    on (Reg init next) k q = (k, q)
    on (Wire cell) k q = (k, q)

-- lists that agree at each place
pub maps_agree : {A B : Type 0} (f : A → ℕ) (g : B → ℕ) (xs : List A) (ys : List B) → length xs ≡ length ys →
    ((i : ℕ) (x : A) (y : B) → slice_get xs i ≡ Some x → slice_get ys i ≡ Some y → f x ≡ g y) → map f xs ≡ map g ys
maps_agree f g [] [] e h = refl
maps_agree f g [] (y ∷ ys) e h = absurd (omega (arith, e))
maps_agree f g (x ∷ xs) [] e h = absurd (omega (arith, e))
maps_agree f g (x ∷ xs) (y ∷ ys) e h = ap (λ a. a ∷ map f xs) (h 0 x y refl refl) ∙ ap (λ l. g y ∷ l) (maps_agree f g xs ys (omega (arith, e)) (λ i a b p q. h (suc i) a b p q))

-- what is known of the places of the inputs
pub record Inputs (n : Netlist) (places : List Sig) : Type 0 where
  pub is : numbers places ≡ inputs_of n
  pub at : (k : ℕ) (s : Sig) → slice_get places k ≡ Some s → (s.0 < length n.signals) × (kind_at n s.0 ≡ Input)
  pub once : (i j : ℕ) (s t : Sig) → slice_get places i ≡ Some s → slice_get places j ≡ Some t → s.0 ≡ t.0 → i ≡ j
  pub all : (s : ℕ) (g : Signal) → slice_get n.signals s ≡ Some g → g.kind ≡ Input → (k : ℕ) × (p : Sig) × (slice_get places k ≡ Some p) × (p.0 ≡ s) × (slice_get (inputs_of n) k ≡ Some s)

pub inputs_are : (n : Netlist) (places : List Sig) → numbers places ≡ inputs_of n → Inputs n places
inputs_are n places e = record {
  is = e;
  at = λ k s f.
      let h = inputs_at n.signals 0 k s.0 (ap (λ l. slice_get l k) (sym e) ∙ get_map (λ (x : Sig). x.0) places k s f) in
      let z : h.from ≡ s.0 = (let a = h.is in omega (arith, a)) in
      ((let b = h.within in omega (arith, z, b)), ap (λ x. kind_in (slice_get n.signals x)) (sym z) ∙ h.input);
  once = λ i j s t f g q.
      inputs_once n.signals 0 i j s.0 (ap (λ l. slice_get l i) (sym e) ∙ get_map (λ (x : Sig). x.0) places i s f)
      (ap (λ l. slice_get l j) (sym e) ∙ get_map (λ (x : Sig). x.0) places j t g ∙ ap Some (sym q));
  all = λ s g f h.
      let r = inputs_all n.signals 0 s g f h in
      let r' : slice_get (inputs_of n) r.0 ≡ Some s = r.1 ∙ ap Some (let z : s + 0 ≡ s = omega arith in z) in
      let p = get_mapped (λ (x : Sig). x.0) places r.0 s (ap (λ l. slice_get l r.0) e ∙ r') in
      (r.0, p.0, p.1, p.2, r');
}

pub inputs_long : (n : Netlist) (places : List Sig) (given : List Word) → numbers places ≡ inputs_of n → AreInputs n given → length places ≡ length given
inputs_long n places given e h =
    let a = ap length e in
    let b = length-map places (λ (x : Sig). x.0) in
    let c = ap length h in
    let d = length-map given (λ (w : Word). w.width) in
    let f = length-map (inputs_of n) (width_of n) in
    omega (arith, a, b, c, d, f)
