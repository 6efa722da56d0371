-- Whether registers are quiet is said by the state alone.
use Rattle.safl_session.proofs.Common.{Choice, Names, Program, Quiet, Scheme, place_at}
use Rattle.std.proofs.Common.{◌≡◌, ℕ, zero, suc, List, [], ◌∷◌, Option, None, Some, Bool, true, false, cond, ◌&&◌, refl, sym, ap, ◌∙◌, subst, inl, inr, ⊎_elim, arith, bytes_eq}
use Rattle.std.specs.Prelude.{slice_get, slice_index, codes}
use Rattle.std.proofs.lemmas.Slice.Eq.{bytes_eq-Decides}
use Rattle.std.proofs.lemmas.Bool.{and_parts, ltb-true, leb-true, lt-ltb}
use Rattle.safl_word.proofs.Booleans.{never_both}
use Rattle.safl_net.specs.Netlist.{Netlist, Signal, Kind, Input, Reg, Wire, place}
use Rattle.safl_net.specs.Valuations.{Valuation, Fits, Holds, number_at, read, reset_state}
use Rattle.safl_circuit.specs.Names.{of_function, of_site, one, is_unit, is_site, registers_now}
use Rattle.safl_circuit.specs.Layout.{Line, lines, member_lines, unit_lines, site_lines, layout_registers, register_kind, each_line, IsLineOf}
use Rattle.safl_circuit.specs.Correct.{IsQuietState}
use Rattle.safl_circuit.proofs.Laid.{has_left, has_right, lines_has, has_side}
use Rattle.safl_session.specs.Circuits.{ResetIsQuiet}
use Rattle.std.specs.Option.{option_map_or}

-- a register of a name
record Found (gs : List Signal) (name : List ℕ) : Type 0 where
  at : ℕ
  signal : Signal
  init : ℕ
  then : Option ℕ
  there : slice_get gs at ≡ Some signal
  is_named : signal.name ≡ name
  kind : signal.kind ≡ Reg init then

here : (g : Signal) (gs : List Signal) (name : List ℕ) (w : ℕ) (k : Kind) → g.kind ≡ k → IsLineOf (name, w) (register_kind (g.name, g.width) k) → Found (g ∷ gs) name
here g gs name w Input e h = absurd h
here g gs name w (Wire cell) e h = absurd h
here g gs name w (Reg init next) e (inr h) = absurd h
here g gs name w (Reg init next) e (inl is) = record { at = 0; signal = g; init = init; then = next; there = refl; is_named = ap (λ p. p.0) is; kind = e }

found : (gs : List Signal) (name : List ℕ) (w : ℕ) → IsLineOf (name, w) (each_line register_kind gs) → Found gs name
unfolding each_line
found [] name w h = absurd h
found (g ∷ gs) name w h = ⊎_elim
    (λ a. here g gs name w g.kind refl a)
    (λ b. let f = found gs name w b in record { at = suc f.at; signal = f.signal; init = f.init; then = f.then; there = f.there; is_named = f.is_named; kind = f.kind })
    (has_side (name, w) (register_kind (g.name, g.width) g.kind) (each_line register_kind gs) h)

-- where a signal of a name stands, the name has a place, and it is that signal's
no_place : (gs : List Signal) (name : List ℕ) (i j : ℕ) (g : Signal) → slice_get gs j ≡ Some g → g.name ≡ name → place gs name i ≡ None → ⊥
unfolding place
no_place [] name i j g at is e = cc
no_place (h ∷ gs) name i zero g at is e =
    let q : h.name ≡ name = (let z : h ≡ g = cc in ap (λ (x : Signal). x.name) z ∙ is) in
    let t : bytes_eq h.name name ≡ true = (bytes_eq-Decides h.name name).1 q in
    let f : cond true (Some i) (place gs name (suc i)) ≡ None = ap (λ b. cond b (Some i) (place gs name (suc i))) (sym t) ∙ e in
    cc
no_place (h ∷ gs) name i (suc j) g at is e = by (bytes_eq h.name name) e (λ f. no_place gs name (suc i) j g at is f)
  where
    by : (b : Bool) → cond b (Some i) (place gs name (suc i)) ≡ None → (place gs name (suc i) ≡ None → ⊥) → ⊥
    by true f rest = cc
    by false f rest = rest f

placed : (gs : List Signal) (name : List ℕ) (j : ℕ) (g : Signal) → slice_get gs j ≡ Some g → g.name ≡ name
    → ((a b : ℕ) (x y : Signal) → slice_get gs a ≡ Some x → slice_get gs b ≡ Some y → x.name ≡ y.name → a ≡ b) → place gs name 0 ≡ Some j
placed gs name j g at is own = on (place gs name 0) refl
  where
    on : (o : Option ℕ) → place gs name 0 ≡ o → place gs name 0 ≡ Some j
    on None e = absurd (no_place gs name 0 j g at is e)
    on (Some s) e =
        let p = place_at gs name 0 s e in
        let same : p.from ≡ j = own p.from j p.signal g p.at at (p.named ∙ sym is) in
        e ∙ ap Some (let a = p.is in omega (arith, a, same))

and_down : (b x y : Bool) → (b ≡ true → y ≡ x) → (b && x) ≡ false → (b && y) ≡ false
and_down true x y h e = h refl ∙ e
and_down false x y h e = refl

module _ (C : Program) (D : Names) (P : Choice) (n : Netlist) (scheme : Scheme C D P n) where
  -- the number that a state has for the register of a name
  abbrev held : (ℕ → ℕ) → List ℕ → ℕ
  held state name = option_map_or state (place n.signals name 0) 0

  abbrev IsHeld : List ℕ → Type 0
  IsHeld name = (state : ℕ → ℕ) (v : Valuation) → Fits n state v → read n v name ≡ held state name

  -- what is read at a register's name is its state
  reads : (name : List ℕ) (w : ℕ) → IsLineOf (name, w) (layout_registers C D P) → IsHeld name
  reads name w h state v fits =
      let f = found n.signals name w (subst (IsLineOf (name, w)) (sym scheme.registers) h) in
      let at = placed n.signals name f.at f.signal f.there f.is_named scheme.distinct in
      ap (number_at v) at ∙ subst (λ k. Holds n v (state f.at) (slice_index v f.at) k) f.kind (fits.each f.at f.signal f.there).1
      ∙ sym (ap (λ (o : Option ℕ). option_map_or state o 0) at)

  abbrev unit_all : ℕ → List Line
  unit_all u = (of_function D (codes "run$") u, 1) ∷ (of_function D (codes "fin$") u, 1) ∷ (of_function D (codes "res$") u, C.result u) ∷ lines (member_lines C D u) C.functions

  in_unit : (u : ℕ) (x : Line) → is_unit C u ≡ true → IsLineOf x (unit_all u) → IsLineOf x (layout_registers C D P)
  in_unit u x is h =
      has_left x (lines (unit_lines C D) C.functions) (lines (site_lines C P) (suc C.sites))
      (lines_has (unit_lines C D) C.functions u x (ltb-true u C.functions (and_parts _ _ is).0) (subst (IsLineOf x) (sym (ap (λ b. cond b (unit_all u) []) is)) h))

  abbrev site_all : ℕ → List Line
  site_all k = (of_site (codes "sent$") k, 1) ∷ (of_site (codes "got$") k, 1) ∷ cond (P.kept k) ((of_site (codes "keep$") k, C.result (C.callee k)) ∷ []) []

  in_site : (k : ℕ) (x : Line) → is_site C k ≡ true → IsLineOf x (site_all k) → IsLineOf x (layout_registers C D P)
  in_site k x is h =
      let a = and_parts _ _ is in
      has_right x (lines (unit_lines C D) C.functions) (lines (site_lines C P) (suc C.sites))
      (lines_has (site_lines C P) (suc C.sites) k x (let z = leb-true k C.sites a.1 in omega (arith, z))
      (subst (IsLineOf x) (sym (ap (λ b. cond b (site_all k) []) (lt-ltb 0 k (ltb-true 0 k a.0)))) h))

  run_reads : (u : ℕ) → is_unit C u ≡ true → IsHeld (of_function D (codes "run$") u)
  run_reads u is = reads _ 1 (in_unit u (of_function D (codes "run$") u, 1) is (inl refl))

  fin_reads : (u : ℕ) → is_unit C u ≡ true → IsHeld (of_function D (codes "fin$") u)
  fin_reads u is = reads _ 1 (in_unit u (of_function D (codes "fin$") u, 1) is (inr (inl refl)))

  sent_reads : (k : ℕ) → is_site C k ≡ true → IsHeld (of_site (codes "sent$") k)
  sent_reads k is = reads _ 1 (in_site k (of_site (codes "sent$") k, 1) is (inl refl))

  got_reads : (k : ℕ) → is_site C k ≡ true → IsHeld (of_site (codes "got$") k)
  got_reads k is = reads _ 1 (in_site k (of_site (codes "got$") k, 1) is (inr (inl refl)))

  same : (state : ℕ → ℕ) (v : Valuation) → Fits n state v → (name : List ℕ) → IsHeld name → one (read n v name) ≡ one (held state name)
  same state v fits name r = ap one (r state v fits)

  -- if a state is quiet, its registers are so in a cycle
  pub quiet_in : (state : ℕ → ℕ) (v : Valuation) → Fits n state v → IsQuietState C D n state → Quiet (registers_now C D n v)
  quiet_in state v fits q = record {
    run = λ u. and_down (is_unit C u) _ _ (λ is. same state v fits _ (run_reads u is)) (q.run u);
    fin = λ u. and_down (is_unit C u) _ _ (λ is. same state v fits _ (fin_reads u is)) (q.fin u);
    sent = λ k pos. and_down (is_site C k) _ _ (λ is. same state v fits _ (sent_reads k is)) (q.sent k pos);
    got = λ k pos. and_down (is_site C k) _ _ (λ is. same state v fits _ (got_reads k is)) (q.got k pos);
  }

  -- and the other way
  pub quiet_of : (state : ℕ → ℕ) (v : Valuation) → Fits n state v → Quiet (registers_now C D n v) → IsQuietState C D n state
  quiet_of state v fits q = record {
    run = λ u. and_down (is_unit C u) _ _ (λ is. sym (same state v fits _ (run_reads u is))) (q.run u);
    fin = λ u. and_down (is_unit C u) _ _ (λ is. sym (same state v fits _ (fin_reads u is))) (q.fin u);
    sent = λ k pos. and_down (is_site C k) _ _ (λ is. sym (same state v fits _ (sent_reads k is))) (q.sent k pos);
    got = λ k pos. and_down (is_site C k) _ _ (λ is. sym (same state v fits _ (got_reads k is))) (q.got k pos);
  }

  alike : (a b : ℕ → ℕ) → ((s : ℕ) → a s ≡ b s) → (o : Option ℕ) → option_map_or b o 0 ≡ option_map_or a o 0
  alike a b same None = refl
  alike a b same (Some s) = sym (same s)

  -- a state with the same numbers is quiet alike
  pub quiet_alike : (a b : ℕ → ℕ) → ((s : ℕ) → a s ≡ b s) → IsQuietState C D n a → IsQuietState C D n b
  quiet_alike a b same q = record {
    run = λ u. and_down (is_unit C u) _ _ (λ is. ap one (alike a b same (place n.signals (of_function D (codes "run$") u) 0))) (q.run u);
    fin = λ u. and_down (is_unit C u) _ _ (λ is. ap one (alike a b same (place n.signals (of_function D (codes "fin$") u) 0))) (q.fin u);
    sent = λ k pos. and_down (is_site C k) _ _ (λ is. ap one (alike a b same (place n.signals (of_site (codes "sent$") k) 0))) (q.sent k pos);
    got = λ k pos. and_down (is_site C k) _ _ (λ is. ap one (alike a b same (place n.signals (of_site (codes "got$") k) 0))) (q.got k pos);
  }

  clear : (o : Option ℕ) → option_map_or (reset_state n) o 0 ≡ 0
  clear None = refl
  clear (Some s) = scheme.resets s

  pub reset_quiet : IsQuietState C D n (reset_state n)
  reset_quiet = record {
    run = λ u. never_both (is_unit C u) _ (λ is. ap one (clear (place n.signals (of_function D (codes "run$") u) 0)));
    fin = λ u. never_both (is_unit C u) _ (λ is. ap one (clear (place n.signals (of_function D (codes "fin$") u) 0)));
    sent = λ k pos. never_both (is_site C k) _ (λ is. ap one (clear (place n.signals (of_site (codes "sent$") k) 0)));
    got = λ k pos. never_both (is_site C k) _ (λ is. ap one (clear (place n.signals (of_site (codes "got$") k) 0)));
  }

pub reset_is_quiet : ResetIsQuiet
reset_is_quiet C D P n scheme = reset_quiet C D P n scheme
