-- The signals that registers and named wires take, listed one after another.
use Rattle.safl_unit.proofs.Common.{Bank, CheckedProgram, Choice, Controls, MemberPins, Names, Program, Sig, SitePins, UnitPins, append-nil}
use Rattle.safl_unit.proofs.Common.{argument_lines, codes, eqb-false, eqb-true, length-map, map-append, of_param, pin, unit_for}
use Rattle.std.proofs.Common.{◌≡◌, ℕ, zero, suc, ◌+◌, ◌*◌, ◌≤◌, List, [], ◌∷◌, ◌++◌, map, length, length-append, Option, Some, None, Bool, true}
use Rattle.std.proofs.Common.{false, cond, slice_get, ◌==◌, nat_lt, refl, sym, ap, ◌∙◌, arith, append_assoc}
use Rattle.safl_circuit.specs.Layout.{Line, lines, function_wires, site_wires, layout_wires}
use Rattle.safl_unit.specs.Ties.{Tie, line_of, sig_of, ties, tied, unit_ties, member_ties, function_ties, call_registers, site_ties, register_ties, body_ties, call_ties, wire_ties}
use Rattle.safl_unit.specs.Setting.{at_ties, own_ties}
use Rattle.safl_unit.proofs.layout.Declaring.{param_lines_long}
use Rattle.safl_unit.proofs.layout.Pinning.{tied_sigs, body_wires_count}
use Rattle.safl_unit.proofs.layout.Lining.{ties_lines}

-- ---- one more, as a loop has it

pub none_listed : (xs : List Sig) (g : ℕ → List Tie) → xs ≡ xs ++ map sig_of (ties g 0)
unfolding ties
none_listed xs g = sym (append-nil xs)

pub more_listed : (xs ys zs : List Sig) (g : ℕ → List Tie) (n : ℕ) → ys ≡ xs ++ map sig_of (ties g n) → zs ≡ ys ++ map sig_of (g n) → zs ≡ xs ++ map sig_of (ties g (n + 1))
unfolding ties
more_listed xs ys zs g n e q =
    q ∙ ap (λ l. l ++ map sig_of (g n)) e ∙ append_assoc xs (map sig_of (ties g n)) (map sig_of (g n)) ∙ ap (λ l. xs ++ l) (sym (map-append sig_of (ties g n) (g n)))
    ∙ ap (λ j. xs ++ map sig_of (ties g j)) (let r : suc n ≡ n + 1 = omega arith in r)

-- no tie for number 0
pub listed_from_one : (xs ys : List Sig) (g : ℕ → List Tie) → ys ≡ xs → g 0 ≡ [] → ys ≡ xs ++ map sig_of (ties g 1)
unfolding ties
listed_from_one xs ys g q e = q ∙ sym (append-nil xs) ∙ ap (λ l. xs ++ map sig_of l) (sym e)

pub no_site_zero : (C : Program) (P : Choice) (ss : List SitePins) → site_ties C P ss 0 ≡ []
no_site_zero C P ss = by (slice_get ss 0)
  where
    by : (o : Option SitePins) → call_registers C P 0 o ≡ []
    by None = refl
    by (Some s) = refl

-- ---- the registers

pub function_listed : (c : CheckedProgram) (us : List UnitPins) (ms : List MemberPins) (f : ℕ) (u : UnitPins) (m : MemberPins) (xs a b e : List Sig)
    → slice_get us f ≡ Some u → slice_get ms f ≡ Some m → length m.args.items ≡ length (c.program.params f)
    → a ≡ xs ++ map sig_of (unit_ties c.program c.names f (Some u)) → b ≡ a ++ map sig_of (at_ties c.program c.names f m.at) → e ≡ b ++ m.args.items
    → e ≡ xs ++ map sig_of (function_ties c.program c.names us ms f)
function_listed c us ms f u m xs a b e atu atm long ea eb ee =
    let C = c.program in
    let D = c.names in
    let ut = map sig_of (unit_ties C D f (Some u)) in
    let at = map sig_of (at_ties C D f m.at) in
    let g = argument_lines C D f in
    ee ∙ ap (λ l. l ++ m.args.items) (eb ∙ ap (λ l. l ++ at) ea)
    ∙ ap (λ l. l ++ m.args.items) (append_assoc xs ut at)
    ∙ append_assoc xs (ut ++ at) m.args.items
    ∙ ap (λ l. xs ++ l)
    (append_assoc ut at m.args.items
    ∙ ap (λ l. ut ++ (at ++ l)) (sym (tied_sigs g m.args.items (long ∙ sym (param_lines_long c f (of_param D f)))))
    ∙ ap (λ l. ut ++ l) (sym (map-append sig_of (at_ties C D f m.at) (tied g m.args.items)))
    ∙ sym (map-append sig_of (unit_ties C D f (Some u)) (member_ties C D f (Some m)))
    ∙ ap (λ o. map sig_of (unit_ties C D f o ++ member_ties C D f (Some m))) (sym atu)
    ∙ ap (λ o. map sig_of (unit_ties C D f (slice_get us f) ++ member_ties C D f o)) (sym atm))

pub registers_listed : (C : Program) (D : Names) (P : Choice) (b : Bank) (k : ℕ) (xs : List Sig) → k ≡ suc C.sites → xs ≡ map sig_of (own_ties C D b)
    ++ map sig_of (ties (site_ties C P b.sites.items) k)
    → xs ≡ map sig_of (register_ties C D P b)
registers_listed C D P b k xs e q =
    q ∙ ap (λ j. map sig_of (own_ties C D b) ++ map sig_of (ties (site_ties C P b.sites.items) j)) e ∙ sym (map-append sig_of (own_ties C D b) (ties (site_ties C P b.sites.items) (suc C.sites)))

-- ---- the named wires

pub body_listed : (D : Names) (T : Controls) (f : ℕ) (x y : Sig) (xs a b : List Sig) → x ≡ pin T.ends.items f → y ≡ pin T.loops.items f → a ≡ xs ++ x
    ∷ [] → b ≡ a ++ y ∷ [] → b ≡ xs ++ map sig_of (body_ties D T f)
body_listed D T f x y xs a b ex ey ea eb =
    eb ∙ ap (λ l. l ++ y ∷ []) ea ∙ append_assoc xs (x ∷ []) (y ∷ []) ∙ ap (λ z. xs ++ (z ∷ y ∷ [])) ex ∙ ap (λ z. xs ++ (pin T.ends.items f ∷ z ∷ [])) ey

four_lines : (a b : Bool) (x y z w : Line) (r s t u : Sig) → map line_of (cond a ((x, r) ∷ (y, s) ∷ (cond b ((z, t) ∷ []) [] ++ (w, u) ∷ [])) []) ≡ cond a (x ∷ y ∷ (cond b (z ∷ []) [] ++ w ∷ [])) []
four_lines true true x y z w r s t u = refl
four_lines true false x y z w r s t u = refl
four_lines false b x y z w r s t u = refl

module _ (C : Program) (D : Names) (P : Choice) (first : ℕ) (T : Controls) where
  body_lines : (n : ℕ) → map line_of (ties (body_ties D T) n) ≡ lines (function_wires D) n
  body_lines n = ties_lines (body_ties D T) (function_wires D) n (λ f l. refl)

  call_lines : (n : ℕ) → map line_of (ties (call_ties C P first T) n) ≡ lines (site_wires C P) n
  call_lines n = ties_lines (call_ties C P first T) (site_wires C P) n (λ k l. four_lines (nat_lt 0 k) (P.arbiter (unit_for C k)) _ _ _ _ _ _ _ _)

  pub wire_lines : map line_of (wire_ties C D P first T) ≡ layout_wires C D P
  wire_lines =
      map-append line_of (ties (body_ties D T) C.functions) (ties (call_ties C P first T) (suc C.sites) ++ ((codes "go$main", 1), pin T.goes.items 0) ∷ [])
      ∙ ap (λ l. l ++ map line_of (ties (call_ties C P first T) (suc C.sites) ++ ((codes "go$main", 1), pin T.goes.items 0) ∷ [])) (body_lines C.functions)
      ∙ ap (λ l. lines (function_wires D) C.functions ++ l)
      (map-append line_of (ties (call_ties C P first T) (suc C.sites)) (((codes "go$main", 1), pin T.goes.items 0) ∷ []) ∙ ap (λ l. l ++ (codes "go$main", 1) ∷ []) (call_lines (suc C.sites)))

  pub bodies_long : (n : ℕ) → length (ties (body_ties D T) n) ≡ 2 * n
  bodies_long n = sym (length-map (ties (body_ties D T) n) line_of) ∙ ap length (body_lines n) ∙ body_wires_count D n

  pub calls_long : (n : ℕ) → length (ties (call_ties C P first T) n) ≡ length (lines (site_wires C P) n)
  calls_long n = sym (length-map (ties (call_ties C P first T) n) line_of) ∙ ap length (call_lines n)

  -- how many are listed before a site
  pub listed_long : (k : ℕ) (xs : List Sig) → xs ≡ map sig_of (ties (body_ties D T) C.functions) ++ map sig_of (ties (call_ties C P first T) k) →
      length xs ≡ 2 * C.functions + length (lines (site_wires C P) k)
  listed_long k xs e =
      let a = ap length e in
      let b = length-append (map sig_of (ties (body_ties D T) C.functions)) (map sig_of (ties (call_ties C P first T) k)) in
      let d = length-map (ties (body_ties D T) C.functions) sig_of in
      let f = length-map (ties (call_ties C P first T) k) sig_of in
      let g = bodies_long C.functions in
      let h = calls_long k in
      omega (arith, a, b, d, f, g, h)

  lines_below : (g : ℕ → List Line) (k n : ℕ) → k ≤ n → length (lines g k) ≤ length (lines g n)
  unfolding lines
  lines_below g zero n l = omega arith
  lines_below g (suc k) zero l = absurd (omega (arith, l))
  lines_below g (suc k) (suc n) l = by (k == n) refl (λ m. lines_below g (suc k) n m)
    where
      by : (b : Bool) → (k == n) ≡ b → (suc k ≤ n → length (lines g k ++ g k) ≤ length (lines g n)) → length (lines g k ++ g k) ≤ length (lines g n ++ g n)
      by true e again = let q = ap (λ j. length (lines g j ++ g j)) (eqb-true k n e) in omega (arith, q)
      by false e again =
          let o = eqb-false k n e in
          let a = again (omega (arith, l, o)) in
          let b = length-append (lines g n) (g n) in
          omega (arith, a, b)

  pub listed_within : (k : ℕ) (xs : List Sig) → k ≤ suc C.sites → xs ≡ map sig_of (ties (body_ties D T) C.functions) ++ map sig_of
      (ties (call_ties C P first T) k) → length xs ≤ length (layout_wires C D P)
  listed_within k xs l e =
      let a = listed_long k xs e in
      let b = lines_below (site_wires C P) k (suc C.sites) l in
      let d = length-append (lines (function_wires D) C.functions) (lines (site_wires C P) (suc C.sites) ++ (codes "go$main", 1) ∷ []) in
      let f = length-append (lines (site_wires C P) (suc C.sites)) ((codes "go$main", 1) ∷ []) in
      let g = body_wires_count D C.functions in
      omega (arith, a, b, d, f, g)
