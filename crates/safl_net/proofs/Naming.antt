-- Names that stand and names that don't.
use Rattle.safl_net.proofs.Common.{Netlist, Signal, bytes_eq-Decides, has_name, named_output, named_signal}
use Rattle.std.proofs.Common.{◌≡◌, ℕ, zero, suc, List, [], ◌∷◌, Some, Bool, true, false, ◌||◌, bytes_eq, slice_get, refl, subst}
use Rattle.std.proofs.lemmas.Bool.{or_parts}

differ : (x y : List ℕ) → bytes_eq x y ≡ false → ¬ (x ≡ y)
differ x y e f = absurd (let h = (bytes_eq-Decides x y).1 f in cc)

signal_unnamed : (gs : List Signal) (name : List ℕ) → named_signal gs name ≡ false → (s : ℕ) (g : Signal) → slice_get gs s ≡ Some g → ¬ (name ≡ g.name)
signal_unnamed [] name e s g f = absurd (cc)
signal_unnamed (h ∷ gs) name e zero g f =
    let d = or_parts (bytes_eq name h.name) (named_signal gs name) e in
    let q : h ≡ g = cc in
    subst (λ (k : Signal). ¬ (name ≡ k.name)) q (differ name h.name d.0)
signal_unnamed (h ∷ gs) name e (suc s) g f =
    let d = or_parts (bytes_eq name h.name) (named_signal gs name) e in
    signal_unnamed gs name d.1 s g f

output_unnamed : (os : List (List ℕ × ℕ)) (name : List ℕ) → named_output os name ≡ false → (i : ℕ) (o : List ℕ × ℕ) → slice_get os i ≡ Some o → ¬ (name ≡ o.0)
output_unnamed [] name e i o f = absurd (cc)
output_unnamed (p ∷ os) name e zero o f =
    let d = or_parts (bytes_eq name p.0) (named_output os name) e in
    let q : p ≡ o = cc in
    subst (λ (k : List ℕ × ℕ). ¬ (name ≡ k.0)) q (differ name p.0 d.0)
output_unnamed (p ∷ os) name e (suc i) o f =
    let d = or_parts (bytes_eq name p.0) (named_output os name) e in
    output_unnamed os name d.1 i o f

-- a name that nothing has differs from each that stands
pub record Unnamed (n : Netlist) (name : List ℕ) : Type 0 where
  pub signals : (s : ℕ) (g : Signal) → slice_get n.signals s ≡ Some g → ¬ (name ≡ g.name)
  pub outputs : (i : ℕ) (o : List ℕ × ℕ) → slice_get n.outputs i ≡ Some o → ¬ (name ≡ o.0)

pub unnamed : (n : Netlist) (name : List ℕ) → has_name n name ≡ false → Unnamed n name
unnamed n name e =
    let d = or_parts (named_signal n.signals name) (named_output n.outputs name) e in
    record { signals = signal_unnamed n.signals name d.0; outputs = output_unnamed n.outputs name d.1 }

signal_named : (gs : List Signal) (name : List ℕ) → ((s : ℕ) (g : Signal) → slice_get gs s ≡ Some g → ¬ (name ≡ g.name)) → named_signal gs name ≡ false
signal_named [] name e = refl
signal_named (h ∷ gs) name e = by (bytes_eq name h.name) refl (signal_named gs name (λ s g f. e (suc s) g f))
  where
    by : (b : Bool) → bytes_eq name h.name ≡ b → named_signal gs name ≡ false → (b || named_signal gs name) ≡ false
    by true q r = absurd (e 0 h refl ((bytes_eq-Decides name h.name).0 q))
    by false q r = r

output_named : (os : List (List ℕ × ℕ)) (name : List ℕ) → ((i : ℕ) (o : List ℕ × ℕ) → slice_get os i ≡ Some o → ¬ (name ≡ o.0)) → named_output os name ≡ false
output_named [] name e = refl
output_named (p ∷ os) name e = by (bytes_eq name p.0) refl (output_named os name (λ i o f. e (suc i) o f))
  where
    by : (b : Bool) → bytes_eq name p.0 ≡ b → named_output os name ≡ false → (b || named_output os name) ≡ false
    by true q r = absurd (e 0 p refl ((bytes_eq-Decides name p.0).0 q))
    by false q r = r

pub has_no_name : (n : Netlist) (name : List ℕ) → Unnamed n name → has_name n name ≡ false
has_no_name n name u = by (named_signal n.signals name) (signal_named n.signals name u.signals) (output_named n.outputs name u.outputs)
  where
    by : (b : Bool) → b ≡ false → named_output n.outputs name ≡ false → (b || named_output n.outputs name) ≡ false
    by true e f = absurd (cc)
    by false e f = f
