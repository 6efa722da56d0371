-- Signals and outputs that are looked up by name.
use Rattle.std.proofs.Common.{◌≡◌, ℕ, suc, ◌+◌, ◌<◌, List, [], ◌∷◌, length, Option, Some, None, Bool, true, false, cond, is_some, bytes_eq, slice_get}
use Rattle.std.proofs.Common.{slice_index, refl, sym, ap, subst, ◌∙◌, arith, codes}
use Rattle.std.specs.Prelude.{IsSome}
use Rattle.std.specs.Option.{option_or}
use Rattle.std.proofs.lemmas.Slice.Eq.{bytes_eq-Decides}
use Rattle.safl_net.specs.Netlist.{Netlist, Signal, Input, place, output_place}
use Rattle.safl_net.specs.Valuations.{number_at}
use Rattle.safl_net.specs.Runs.{start_number}
use Rattle.safl_net.specs.Making.{kind_in, kind_at, found}
use Rattle.safl_net.specs.Rules.{IsNetlist}
use Rattle.safl_net.specs.Whole.{HasStart}
use Rattle.safl_sim.specs.Words.{is_start}

-- the signal at a place
pub record PlaceAt (gs : List Signal) (name : List ℕ) (i s : ℕ) : Type 0 where
  pub from : ℕ
  pub is : s ≡ from + i
  pub signal : Signal
  pub at : slice_get gs from ≡ Some signal
  pub named : signal.name ≡ name

pub place_at : (gs : List Signal) (name : List ℕ) (i s : ℕ) → place gs name i ≡ Some s → PlaceAt gs name i s
unfolding place
place_at [] name i s e = absurd (cc)
place_at (g ∷ gs) name i s e = by (bytes_eq g.name name) refl e (λ f. place_at gs name (suc i) s f)
  where
    by : (b : Bool) → bytes_eq g.name name ≡ b → cond b (Some i) (place gs name (suc i)) ≡ Some s → (place gs name (suc i) ≡ Some s → PlaceAt gs name (suc i) s) → PlaceAt (g ∷ gs) name i s
    by true q e rest = record { from = 0; is = (let a : i ≡ s = cc in omega (arith, a)); signal = g; at = refl; named = (bytes_eq-Decides g.name name).0 q }
    by false q e rest = let p = rest e in record { from = suc p.from; is = (let a = p.is in omega (arith, a)); signal = p.signal; at = p.at; named = p.named }

pub record OutputAt (os : List (List ℕ × ℕ)) (name : List ℕ) (s : ℕ) : Type 0 where
  pub index : ℕ
  pub output : List ℕ × ℕ
  pub at : slice_get os index ≡ Some output
  pub named : output.0 ≡ name
  pub shows : output.1 ≡ s

output_at : (os : List (List ℕ × ℕ)) (name : List ℕ) (s : ℕ) → output_place os name ≡ Some s → OutputAt os name s
output_at [] name s e = absurd (cc)
output_at (o ∷ os) name s e = by (bytes_eq o.0 name) refl e (λ f. output_at os name s f)
  where
    by : (b : Bool) → bytes_eq o.0 name ≡ b → cond b (Some o.1) (output_place os name) ≡ Some s → (output_place os name ≡ Some s → OutputAt os name s) → OutputAt (o ∷ os) name s
    by true q e rest = record { index = 0; output = o; at = refl; named = (bytes_eq-Decides o.0 name).0 q; shows = cc }
    by false q e rest = let p = rest e in record { index = suc p.index; output = p.output; at = p.at; named = p.named; shows = p.shows }

-- what an output shows is a signal of the net
pub output_known : (n : Netlist) (name : List ℕ) (s : ℕ) → IsNetlist n → Some s ≡ output_place n.outputs name → s < length n.signals
output_known n name s made e =
    let p = output_at n.outputs name s (sym e) in
    subst (λ x. x < length n.signals) p.shows (made.outputs p.index p.output p.at).1

-- no signal has the name of an output
pub found_output : (n : Netlist) (name : List ℕ) → IsNetlist n → IsSome (output_place n.outputs name) → found n name ≡ output_place n.outputs name
found_output n name made some = on (place n.signals name 0) (output_place n.outputs name) refl refl some
  where
    on : (a b : Option ℕ) → place n.signals name 0 ≡ a → output_place n.outputs name ≡ b → is_some b ≡ true → option_or a b ≡ b
    on a None p q h = absurd (cc)
    on None (Some t) p q h = refl
    on (Some s) (Some t) p q h =
        let a = place_at n.signals name 0 s p in
        let b = output_at n.outputs name t q in
        absurd (made.between a.from b.index a.signal b.output a.at b.at (a.named ∙ sym b.named))

-- each input named `start` has this number

abbrev pub Starts : List Signal → List ℕ → ℕ → Type 0
Starts gs v x = (s : ℕ) (g : Signal) → slice_get gs s ≡ Some g → g.kind ≡ Input → is_start g.name ≡ true → slice_index v s ≡ x

-- there is one
pub starts : (n : Netlist) (v : List ℕ) (x : ℕ) → IsNetlist n → (h : HasStart n) → slice_index v h.signal ≡ x → Starts n.signals v x
starts n v x made h e s g at kind named =
    let p = place_at n.signals (codes "start") 0 h.signal h.at in
    let same : s ≡ p.from = made.apart s p.from g p.signal at p.at ((bytes_eq-Decides g.name (codes "start")).0 named ∙ sym p.named) in
    let here : s ≡ h.signal = (let a = p.is in omega (arith, a, same)) in
    ap (slice_index v) here ∙ e

pub start_is : (n : Netlist) (v : List ℕ) (x : ℕ) (h : HasStart n) → Starts n.signals v x → start_number n v ≡ x
start_is n v x h all =
    let p = place_at n.signals (codes "start") 0 h.signal h.at in
    let here : p.from ≡ h.signal = (let a = p.is in omega (arith, a)) in
    let input : p.signal.kind ≡ Input = sym (ap kind_in p.at) ∙ ap (kind_at n) here ∙ h.input in
    ap (number_at v) h.at ∙ ap (slice_index v) (sym here) ∙ all p.from p.signal p.at input ((bytes_eq-Decides p.signal.name (codes "start")).1 p.named)

pub start_at : (n : Netlist) (v : List ℕ) (x : ℕ) (h : HasStart n) → start_number n v ≡ x → slice_index v h.signal ≡ x
start_at n v x h e = sym (ap (number_at v) h.at) ∙ e
