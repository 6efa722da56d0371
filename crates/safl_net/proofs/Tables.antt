-- The tables of a net.
use Rattle.safl_net.proofs.Common.{Global, Input, IsNetlist, Kind, KindFits, Reg, Row, Sig, Signal, SignalFits, Wire, get_pushed}
use Rattle.std.proofs.Common.{◌≡◌, ℕ, zero, suc, ◌+◌, ◌<◌, ◌≤◌, List, [], ◌∷◌, ◌++◌, length, Option, Some, None, Bool, true, false, cond, ◌||◌}
use Rattle.std.proofs.Common.{is_some, slice_get, String, string_bytes, bytes_eq, refl, sym, ap, subst, ◌∙◌, arith, inl, inr}
use Rattle.std.specs.Map.{lookup, values_of}
use Rattle.indexmap.specs.IndexMap.{set_value_at}
use Rattle.std.proofs.lemmas.List.{map_push}
use Rattle.safl_word.proofs.Options.{none_of}
use Rattle.safl_net.specs.declared.net.Driver.{Driver}
use Rattle.safl_net.specs.Names.{is_good, named_signal, named_output, has_name, one_wire, wires}
use Rattle.safl_net.specs.Making.{set_kind}
use Rattle.safl_net.specs.Stored.{kind_of, signal_of, signals_of, outputs_of, net_of, ResetFits, KeepsNetlist}
use Rattle.safl_net.proofs.Keeping.{push_kept, set_kept, output_kept}

or_some : (a : Bool) {V : Type 0} (v : V) (o : Option V) (b : Bool) → is_some o ≡ b → is_some (cond a (Some v) o) ≡ (a || b)
or_some true v o b e = refl
or_some false v o b e = e

-- a look-up by a name finds exactly what has the name
pub signal_found : (es : List (String Global × Row)) (x : List ℕ) → is_some (lookup (λ k. bytes_eq x (string_bytes k)) es) ≡ named_signal (signals_of es) x
signal_found [] x = refl
signal_found (e ∷ es) x = or_some (bytes_eq x (string_bytes e.0)) e.1 _ _ (signal_found es x)

pub output_found : (os : List (String Global × Sig)) (x : List ℕ) → is_some (lookup (λ k. bytes_eq x (string_bytes k)) os) ≡ named_output (outputs_of os) x
output_found [] x = refl
output_found (e ∷ os) x = or_some (bytes_eq x (string_bytes e.0)) e.1 _ _ (output_found os x)

first_false : (a b : Bool) → (a || b) ≡ false → a ≡ false
first_false true b e = absurd (cc)
first_false false b e = refl

second_false : (a b : Bool) → (a || b) ≡ false → b ≡ false
second_false true b e = absurd (cc)
second_false false b e = e

-- a name that nothing has is no key
pub no_signal : (es : List (String Global × Row)) (os : List (String Global × Sig)) (x : List ℕ) → has_name (net_of es os) x ≡ false → lookup (λ k. bytes_eq x (string_bytes k)) es ≡ None
no_signal es os x e = none_of _ (signal_found es x ∙ first_false (named_signal (signals_of es) x) (named_output (outputs_of os) x) e)

pub no_output : (es : List (String Global × Row)) (os : List (String Global × Sig)) (x : List ℕ) → has_name (net_of es os) x ≡ false → lookup (λ k. bytes_eq x (string_bytes k)) os ≡ None
no_output es os x e = none_of _ (output_found os x ∙ second_false (named_signal (signals_of es) x) (named_output (outputs_of os) x) e)

pub wire_or_not : (k : Kind) → one_wire k ≤ 1
wire_or_not Input = omega arith
wire_or_not (Reg init next) = omega arith
wire_or_not (Wire cell) = omega arith

pub wires_few : (gs : List Signal) → wires gs ≤ length gs
wires_few [] = omega arith
wires_few (g ∷ gs) = let a = wire_or_not g.kind in let b = wires_few gs in omega (arith, a, b)

pub wires_push : (gs : List Signal) (g : Signal) → wires (gs ++ g ∷ []) ≡ wires gs + one_wire g.kind
wires_push [] g = omega arith
wires_push (h ∷ gs) g = let e = wires_push gs g in omega (arith, e)

pub signals_push : (es : List (String Global × Row)) (name : String Global) (r : Row) → signals_of (es ++ (name, r) ∷ []) ≡ signals_of es ++ signal_of (string_bytes name) r ∷ []
signals_push es name r = map_push _ es (name, r)

-- one more row
pub rows_kept : (es : List (String Global × Row)) (os : List (String Global × Sig)) (count : ℕ) (name : String Global) (r : Row)
    → KeepsNetlist es os count → length (signals_of es) < 4294967295 → has_name (net_of es os) (string_bytes name) ≡ false
    → SignalFits (net_of es os) (signal_of (string_bytes name) r) → ResetFits r.width r.driver
    → KeepsNetlist (es ++ (name, r) ∷ []) os (count + one_wire (kind_of r.driver))
rows_kept es os count name r k room new fits reset =
    let p = signals_push es name r in
    record {
      netlist = subst (λ gs. IsNetlist (record { signals = gs; outputs = outputs_of os })) (sym p) (push_kept (net_of es os) (signal_of (string_bytes name) r) k.netlist room new fits);
      resets = λ i e q. elim (get_pushed es (name, r) e i q) [
        | inl f ↦ k.resets i e f
        | inr f ↦ subst (λ (x : String Global × Row). ResetFits x.1.width x.1.driver) (sym f.1) reset
      ];
      counted = let e = k.counted in let w = wires_push (signals_of es) (signal_of (string_bytes name) r) in let q = ap wires p in omega (arith, e, w, q);
    }

-- the row at a place
pub row_at : (es : List (String Global × Row)) (i : ℕ) (r : Row) → slice_get (values_of es) i ≡ Some r → (name : List ℕ) × (slice_get (signals_of es) i ≡ Some (signal_of name r))
row_at [] i r e = absurd (cc)
row_at (f ∷ es) zero r e = (string_bytes f.0, (let q : f.1 ≡ r = cc in ap (λ (x : Row). Some (signal_of (string_bytes f.0) x)) q))
row_at (f ∷ es) (suc i) r e = row_at es i r e

abbrev driven : Row → Driver → Row
driven r d = record { width = r.width; driver = d }

pub signals_set : (es : List (String Global × Row)) (i : ℕ) (r : Row) (d : Driver) → slice_get (values_of es) i ≡ Some r → signals_of
    (set_value_at es i (driven r d)) ≡ set_kind (signals_of es) i (kind_of d)
signals_set [] i r d e = absurd (cc)
signals_set (f ∷ es) zero r d e =
    let q : f.1 ≡ r = cc in
    ap (λ (w : ℕ). record { name = string_bytes f.0; width = w; kind = kind_of d } ∷ signals_of es) (sym (ap (λ (x : Row). x.width) q))
signals_set (f ∷ es) (suc i) r d e = ap (λ l. signal_of (string_bytes f.0) f.1 ∷ l) (signals_set es i r d e)

wires_set : (gs : List Signal) (i : ℕ) (k : Kind) (g : Signal) → slice_get gs i ≡ Some g → one_wire k ≡ one_wire g.kind → wires (set_kind gs i k) ≡ wires gs
wires_set [] i k g e f = absurd (cc)
wires_set (h ∷ gs) zero k g e f =
    let q : h ≡ g = cc in
    let w = ap (λ (x : Signal). one_wire x.kind) q in
    omega (arith, w, f)
wires_set (h ∷ gs) (suc i) k g e f = let q = wires_set gs i k g e f in omega (arith, q)

resets_set : (es : List (String Global × Row)) (i : ℕ) (r : Row) → ((j : ℕ) (e : String Global × Row) → slice_get es j ≡ Some e → ResetFits e.1.width e.1.driver) → ResetFits r.width r.driver
    → (j : ℕ) (e : String Global × Row) → slice_get (set_value_at es i r) j ≡ Some e → ResetFits e.1.width e.1.driver
resets_set [] i r h g j e f = absurd (cc)
resets_set (a ∷ es) zero r h g zero e f =
    let q : (a.0, r) ≡ e = cc in
    subst (λ (x : String Global × Row). ResetFits x.1.width x.1.driver) q g
resets_set (a ∷ es) zero r h g (suc j) e f = h (suc j) e f
resets_set (a ∷ es) (suc i) r h g zero e f = h zero e f
resets_set (a ∷ es) (suc i) r h g (suc j) e f = resets_set es i r (λ k x q. h (suc k) x q) g j e f

-- a row of another driver
pub rows_set : (es : List (String Global × Row)) (os : List (String Global × Sig)) (count i : ℕ) (r : Row) (d : Driver)
    → KeepsNetlist es os count → slice_get (values_of es) i ≡ Some r → one_wire (kind_of d) ≡ one_wire (kind_of r.driver)
    → KindFits (net_of es os) r.width (kind_of d) → ResetFits r.width d → KeepsNetlist (set_value_at es i (driven r d)) os count
rows_set es os count i r d k here alike fits reset =
    let p = signals_set es i r d here in
    let a = row_at es i r here in
    record {
      netlist = subst (λ gs. IsNetlist (record { signals = gs; outputs = outputs_of os })) (sym p) (set_kept (net_of es os) i (kind_of d) (signal_of a.0 r) k.netlist a.1 fits);
      resets = resets_set es i (driven r d) k.resets reset;
      counted = let e = k.counted in let q = ap wires p in let w = wires_set (signals_of es) i (kind_of d) (signal_of a.0 r) a.1 alike in omega (arith, e, q, w);
    }

-- one more output
pub outputs_push : (os : List (String Global × Sig)) (name : String Global) (s : Sig) → outputs_of (os ++ (name, s) ∷ []) ≡ outputs_of os ++ (string_bytes name, s.0) ∷ []
outputs_push os name s = map_push _ os (name, s)

pub outputs_kept : (es : List (String Global × Row)) (os : List (String Global × Sig)) (count : ℕ) (name : String Global) (s : Sig)
    → KeepsNetlist es os count → length (outputs_of os) < 4294967295 → is_good (string_bytes name) ≡ true → has_name (net_of es os) (string_bytes name) ≡ false
    → s.0 < length (signals_of es) → KeepsNetlist es (os ++ (name, s) ∷ []) count
outputs_kept es os count name s k room good new here = record {
  netlist = subst (λ (l : List (List ℕ × ℕ)). IsNetlist (record { signals = signals_of es; outputs = l })) (sym (outputs_push os name s))
      (output_kept (net_of es os) (string_bytes name) s.0 k.netlist room good new here);
  resets = k.resets;
  counted = k.counted;
}
