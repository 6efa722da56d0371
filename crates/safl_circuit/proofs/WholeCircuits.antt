-- A netlist with the scheme of a program is whole: its ports stand first in the layout.
use Rattle.safl_circuit.proofs.Common.{Choice, Names, Program, Scheme, bytes_eq-Decides}
use Rattle.std.proofs.Common.{◌≡◌, ℕ, suc, ◌+◌, List, [], ◌∷◌, map, cond, Bool, true, false, Option, Some, refl, sym, ap, subst, ◌∙◌, inl, inr, ⊎_elim, arith, bytes_eq}
use Rattle.std.specs.Prelude.{slice_get, codes, is_some, IsSome}
use Rattle.safl_net.specs.Netlist.{Netlist, Signal, Kind, Input, Reg, Wire, width_in, output_place}
use Rattle.safl_net.specs.Making.{kind_in}
use Rattle.safl_net.specs.Whole.{HasStart}
use Rattle.safl_circuit.specs.Layout.{Line, input_kind, each_line, IsLineOf}
use Rattle.safl_circuit.specs.Theorem.{SchemesAreWhole}
use Rattle.safl_circuit.proofs.Laid.{has_side, placed}

-- ---- where an input's line stands, there is the input

record FoundInput (gs : List Signal) (name : List ℕ) (w : ℕ) : Type 0 where
  pub at : ℕ
  pub signal : Signal
  pub there : slice_get gs at ≡ Some signal
  pub is_named : signal.name ≡ name
  pub wide : signal.width ≡ w
  pub kind : signal.kind ≡ Input

here : (g : Signal) (gs : List Signal) (name : List ℕ) (w : ℕ) (k : Kind) → g.kind ≡ k → IsLineOf (name, w) (input_kind (g.name, g.width) k) → FoundInput (g ∷ gs) name w
here g gs name w (Reg init next) e h = absurd h
here g gs name w (Wire cell) e h = absurd h
here g gs name w Input e (inr h) = absurd h
here g gs name w Input e (inl is) =
    record { at = 0; signal = g; there = refl; is_named = ap (λ (l : Line). l.0) is; wide = ap (λ (l : Line). l.1) is; kind = e }

found : (gs : List Signal) (name : List ℕ) (w : ℕ) → IsLineOf (name, w) (each_line input_kind gs) → FoundInput gs name w
unfolding each_line
found [] name w h = absurd h
found (g ∷ gs) name w h = ⊎_elim
    (λ a. here g gs name w g.kind refl a)
    (λ b. let f = found gs name w b in record { at = suc f.at; signal = f.signal; there = f.there; is_named = f.is_named; wide = f.wide; kind = f.kind })
    (has_side (name, w) (input_kind (g.name, g.width) g.kind) (each_line input_kind gs) h)

has_start : (C : Program) (D : Names) (P : Choice) (n : Netlist) → Scheme C D P n → HasStart n
has_start C D P n scheme =
    let f = found n.signals (codes "start") 1 (subst (IsLineOf (codes "start", 1)) (sym scheme.inputs) (inl refl)) in
    record {
      signal = f.at;
      at = placed n.signals (codes "start") 0 f.at f.signal scheme.distinct f.there f.is_named ∙ ap Some (plus f.at);
      input = ap kind_in f.there ∙ f.kind;
      bit = ap width_in f.there ∙ f.wide;
    }
  where
    plus : (j : ℕ) → 0 + j ≡ j
    plus j = omega arith

-- ---- the outputs are `done` and `result`

abbrev line_of : List Signal → List ℕ × ℕ → Line
line_of gs o = (o.0, width_in (slice_get gs o.1))

abbrev first_line : List Line → Line
first_line [] = ([], 0)
first_line (l ∷ ls) = l

abbrev other_lines : List Line → List Line
other_lines [] = []
other_lines (l ∷ ls) = ls

record HasOutputs (gs : List Signal) (os : List (List ℕ × ℕ)) : Type 0 where
  pub signal : ℕ
  pub at : output_place os (codes "done") ≡ Some signal
  pub bit : width_in (slice_get gs signal) ≡ 1
  pub result : IsSome (output_place os (codes "result"))

some_either : (b : Bool) (x : ℕ) (o : Option ℕ) → is_some o ≡ true → is_some (cond b (Some x) o) ≡ true
some_either true x o h = refl
some_either false x o h = h

shown : (gs : List Signal) (os : List (List ℕ × ℕ)) (w : ℕ) → map (line_of gs) os ≡ (codes "done", 1) ∷ (codes "result", w) ∷ [] → HasOutputs gs os
shown gs [] w e = absurd cc
shown gs (o ∷ []) w e = absurd cc
shown gs (o ∷ p ∷ os) w e =
    let a : line_of gs o ≡ (codes "done", 1) = ap first_line e in
    let b : line_of gs p ≡ (codes "result", w) = ap (λ (ls : List Line). first_line (other_lines ls)) e in
    let done : bytes_eq o.0 (codes "done") ≡ true = (bytes_eq-Decides o.0 (codes "done")).1 (ap (λ (l : Line). l.0) a) in
    let result : bytes_eq p.0 (codes "result") ≡ true = (bytes_eq-Decides p.0 (codes "result")).1 (ap (λ (l : Line). l.0) b) in
    record {
      signal = o.1;
      at = ap (λ t. cond t (Some o.1) (output_place (p ∷ os) (codes "done"))) done;
      bit = ap (λ (l : Line). l.1) a;
      result = some_either (bytes_eq o.0 (codes "result")) o.1 (output_place (p ∷ os) (codes "result"))
          (ap (λ t. is_some (cond t (Some p.1) (output_place os (codes "result")))) result);
    }

pub schemes_whole : SchemesAreWhole
schemes_whole C D P n scheme =
    let o = shown n.signals n.outputs (C.result C.main) scheme.outputs in
    record {
      set = scheme.whole;
      start = has_start C D P n scheme;
      done = record { signal = o.signal; at = o.at; bit = o.bit };
      result = o.result;
    }
