-- Inputs and registers of one name in two nets.
use Rattle.safl_net.proofs.Common.{IsNetlist, IsTidy, flat_map, is_temp, one_wire}
use Rattle.std.proofs.Common.{◌≡◌, ℕ, zero, suc, List, [], ◌∷◌, ◌++◌, map, length, Option, Some, None, Bool, true, false, slice_get, slice_index, refl, sym, ap, subst, ◌∙◌, inl, inr, arith}
use Rattle.safl_net.specs.Netlist.{Netlist, Signal, Kind, Input, Reg, Wire, with_input}
use Rattle.safl_net.specs.Valuations.{Valuation, Holds, Fits, read}
use Rattle.safl_net.proofs.Reading.{read_word}
use Rattle.safl_net.specs.Mirrors.{Line, input_line, register_line, inputs_in, registers_in, IsCycle}
use Rattle.safl_net.specs.MirrorRuns.{numbers_of_inputs}
use Rattle.safl_net.proofs.GatheredLists.{Member, gathered, from}

-- ---- registers

-- the register of this name
pub record Twin (m : Netlist) (name : List ℕ) (width init : ℕ) : Type 0 where
  pub number : ℕ
  pub signal : Signal
  pub next : Option ℕ
  pub there : slice_get m.signals number ≡ Some signal
  pub named : signal.name ≡ name
  pub wide : signal.width ≡ width
  pub kind : signal.kind ≡ Reg init next

one_register : (g : Signal) (k : Kind) (x : Line × ℕ) → Member x (register_line g k) → (next : Option ℕ) × (k ≡ Reg x.1 next) × (g.name ≡ x.0.0) × (g.width ≡ x.0.1)
one_register g Input x h = absurd h
one_register g (Reg init next) x (inl e) = (next, ap (λ (y : Line × ℕ). Reg y.1 next) e, ap (λ (y : Line × ℕ). y.0.0) e, ap (λ (y : Line × ℕ). y.0.1) e)
one_register g (Reg init next) x (inr h) = absurd h
one_register g (Wire cell) x h = absurd h

pub twin : (n m : Netlist) → registers_in m ≡ registers_in n → (s init : ℕ) (next : Option ℕ) (g : Signal) → slice_get n.signals s ≡ Some g → g.kind ≡ Reg init next → Twin m g.name g.width init
twin n m same s init next g e is =
    let x : Line × ℕ = ((g.name, g.width), init) in
    let own : Member x (register_line g g.kind) = subst (λ k. Member x (register_line g k)) (sym is) (inl refl) in
    let there : Member x (registers_in m) = subst (Member x) (sym same) (gathered (λ h. register_line h h.kind) n.signals s g x e own) in
    let r = from (λ h. register_line h h.kind) m.signals x there in
    let k = one_register r.signal r.signal.kind x r.gives in
    record { number = r.number; signal = r.signal; next = k.0; there = r.there; named = k.2; wide = k.3; kind = k.1 }

-- ---- inputs

one_input : (g : Signal) (k : Kind) (x : Line) → Member x (input_line g k) → (k ≡ Input) × (g.name ≡ x.0)
one_input g Input x (inl e) = (refl, ap (λ (y : Line). y.0) e)
one_input g Input x (inr h) = absurd h
one_input g (Reg init next) x h = absurd h
one_input g (Wire cell) x h = absurd h

-- what is no wire has the name of no temporary
pub lasting : (n : Netlist) (s : ℕ) (g : Signal) → IsTidy n → slice_get n.signals s ≡ Some g → one_wire g.kind ≡ 0 → is_temp g.name ≡ false
lasting n s g tidy e none = by (is_temp g.name) refl
  where
    by : (b : Bool) → is_temp g.name ≡ b → b ≡ false
    by true is = let q = (tidy.signals s g e is).0 in absurd (omega (arith, q, none))
    by false is = refl

pub input_lasts : (n : Netlist) → IsTidy n → (x : Line) → Member x (inputs_in n) → is_temp x.0 ≡ false
input_lasts n tidy x h =
    let r = from (λ g. input_line g g.kind) n.signals x h in
    let k = one_input r.signal r.signal.kind x r.gives in
    ap is_temp (sym k.1) ∙ lasting n r.number r.signal tidy r.there (ap one_wire k.0)

numbers_named : (f : List ℕ → ℕ) (gs : List Signal) (v : Valuation) → length v ≡ length gs → ((s : ℕ) (g : Signal) → slice_get gs s ≡ Some g → g.kind ≡ Input → slice_index v s ≡ f g.name)
    → numbers_of_inputs gs v ≡ map (λ (l : Line). f l.0) (flat_map (λ g. input_line g g.kind) gs)
unfolding numbers_of_inputs
numbers_named f [] v len h = refl
numbers_named f (g ∷ gs) [] len h = absurd (omega (arith, len))
numbers_named f (g ∷ gs) (w ∷ ws) len h = by g.kind refl (numbers_named f gs ws (omega (arith, len)) (λ s x e k. h (suc s) x e k))
  where
    by : (k : Kind) → g.kind ≡ k → numbers_of_inputs gs ws ≡ map (λ (l : Line). f l.0) (flat_map (λ g. input_line g g.kind) gs)
        → with_input k w (numbers_of_inputs gs ws) ≡ map (λ (l : Line). f l.0) (input_line g k ++ flat_map (λ g. input_line g g.kind) gs)
    by Input is ih = ap (λ a. a ∷ numbers_of_inputs gs ws) (h 0 g refl is) ∙ ap (λ l. f g.name ∷ l) ih
    by (Reg init next) is ih = ih
    by (Wire cell) is ih = ih

-- the numbers of the inputs, by their names
pub inputs_named : (n : Netlist) (state : ℕ → ℕ) (v : Valuation) → IsNetlist n → Fits n state v → numbers_of_inputs n.signals v ≡ map (λ (l : Line). read n v l.0) (inputs_in n)
inputs_named n state v made f = numbers_named (read n v) n.signals v f.full (λ s g e is. sym (read_word n v s g made e))

-- inputs with equal numbers have each the same
pub each_input : (gs : List Signal) (v w : Valuation) → length v ≡ length gs → length w ≡ length gs → numbers_of_inputs gs v ≡ numbers_of_inputs gs w
    → (s : ℕ) (g : Signal) → slice_get gs s ≡ Some g → g.kind ≡ Input → slice_index v s ≡ slice_index w s
unfolding numbers_of_inputs
each_input [] v w lv lw e s g there is = absurd (cc)
each_input (x ∷ gs) [] w lv lw e s g there is = absurd (omega (arith, lv))
each_input (x ∷ gs) (a ∷ v) [] lv lw e s g there is = absurd (omega (arith, lw))
each_input (x ∷ gs) (a ∷ v) (b ∷ w) lv lw e zero g there is =
    let q : x ≡ g = cc in
    head (subst (λ k. with_input k a (numbers_of_inputs gs v) ≡ with_input k b (numbers_of_inputs gs w)) (ap (λ (y : Signal). y.kind) q ∙ is) e)
  where
    head : a ∷ numbers_of_inputs gs v ≡ b ∷ numbers_of_inputs gs w → a ≡ b
    head p = cc
each_input (x ∷ gs) (a ∷ v) (b ∷ w) lv lw e (suc s) g there is = each_input gs v w (omega (arith, lv)) (omega (arith, lw)) (tail x.kind e) s g there is
  where
    tail : (k : Kind) → with_input k a (numbers_of_inputs gs v) ≡ with_input k b (numbers_of_inputs gs w) → numbers_of_inputs gs v ≡ numbers_of_inputs gs w
    tail Input p = cc
    tail (Reg init next) p = p
    tail (Wire cell) p = p

-- ---- cycles

own_holds : (n : Netlist) (v : Valuation) (state w : ℕ) (k : Kind) → Holds n v state w k → Holds n v w w k
own_holds n v state w Input h = tt
own_holds n v state w (Reg init next) h = refl
own_holds n v state w (Wire None) h = tt
own_holds n v state w (Wire (Some c)) h = h

-- what fits a state is a cycle
pub own : (n : Netlist) (state : ℕ → ℕ) (v : Valuation) → Fits n state v → IsCycle n v
own n state v f = record { full = f.full; each = λ s g e. let h = f.each s g e in (h.0, own_holds n v (state s) (slice_index v s) g.kind h.1) }

held_at : (n : Netlist) (v : Valuation) (state w : ℕ) (k : Kind) → Holds n v w w k → ((init : ℕ) (next : Option ℕ) → k ≡ Reg init next → w ≡ state) → Holds n v state w k
held_at n v state w Input h f = tt
held_at n v state w (Reg init next) h f = f init next refl
held_at n v state w (Wire None) h f = tt
held_at n v state w (Wire (Some c)) h f = h

-- a cycle fits a state that its registers show
pub fits_state : (n : Netlist) (state : ℕ → ℕ) (v : Valuation) → IsCycle n v
    → ((s init : ℕ) (next : Option ℕ) (g : Signal) → slice_get n.signals s ≡ Some g → g.kind ≡ Reg init next → slice_index v s ≡ state s) → Fits n state v
fits_state n state v f h = record { full = f.full; each = λ s g e. let k = f.each s g e in (k.0, held_at n v (state s) (slice_index v s) g.kind k.1 (λ init next is. h s init next g e is)) }
