-- The registers of functions, in the order of their lines.
use Rattle.safl_unit.proofs.Common.{CheckedProgram, Choice, IsChecked, MemberPins, Names, Netlist, Program, Sig, Signal, SitePins, UnitPins}
use Rattle.safl_unit.proofs.Common.{arity, codes, eqb-false, eqb-true, get_end, get_in_front, get_pushed, main_is_last, many, map-append}
use Rattle.safl_unit.proofs.Common.{of_function, of_param, of_site, open_register, slice_get_within, unit_for}
use Rattle.std.proofs.Common.{◌≡◌, ℕ, zero, suc, ◌+◌, ◌-◌, ◌*◌, ◌<◌, ◌≤◌, List, [], ◌∷◌, ◌++◌, map, length, length-append, Some, Bool, true, false}
use Rattle.std.proofs.Common.{cond, slice_get, ◌==◌, nat_lt, inl, inr, refl, sym, ap, subst, ◌∙◌, arith}
use Rattle.safl_circuit.specs.Layout.{Line, lines, site_lines, function_wires, site_wires}
use Rattle.safl_unit.specs.Ties.{Tie, sig_of, ties, tied, numbered, unit_ties, member_ties, function_ties, site_ties, call_registers}
use Rattle.safl_unit.specs.Declaring.{with_signals, unit_head, at_line, argument_lines, function_lines, Pinned, FunctionsPinned, SitePinned, SitesPinned}
use Rattle.safl_unit.proofs.equations.Tables.{each_push}
use Rattle.safl_unit.proofs.layout.Declaring.{lines_count, lines_on, lines_none, numbered_more, param_lines_long}

-- ---- one function

pub tied_sigs : (ls : List Line) (ss : List Sig) → length ss ≡ length ls → map sig_of (tied ls ss) ≡ ss
tied_sigs [] [] e = refl
tied_sigs [] (s ∷ ss) e = absurd (omega (arith, e))
tied_sigs (l ∷ ls) [] e = absurd (omega (arith, e))
tied_sigs (l ∷ ls) (s ∷ ss) e = ap (λ x. s ∷ x) (tied_sigs ls ss (omega (arith, e)))

at_sigs : (b : Bool) (l : Line) (s : Sig) → map sig_of (cond b ((l, s) ∷ []) []) ≡ cond b (s ∷ []) []
at_sigs true l s = refl
at_sigs false l s = refl

pub numbered_long : (s n : ℕ) → length (numbered s n) ≡ n
numbered_long s zero = refl
numbered_long s (suc n) = ap suc (numbered_long (suc s) n)

module _ (c : CheckedProgram) where
  abbrev C : Program
  C = c.program

  abbrev D : Names
  D = c.names

  pub pinned : (f : ℕ) (n a b e : Netlist) (us : List UnitPins) (u : UnitPins) (m : MemberPins)
      → a ≡ with_signals n (map open_register (unit_head C D f)) → map sig_of (unit_ties C D f (Some u)) ≡ numbered (length n.signals)
      (length (unit_head C D f)) → ((C.unit f ≡ f → ⊥) → slice_get us (C.unit f) ≡ Some u)
      → b ≡ with_signals a (map open_register (at_line C D f)) → cond (many C f) (m.at ∷ []) [] ≡ numbered (length a.signals) (length (at_line C D f)) → (many C f ≡ false → m.at ≡ u.run)
      → e ≡ with_signals b (map open_register (argument_lines C D f)) → m.args.items ≡ numbered (length b.signals) (arity C f)
      → Pinned C D f (length n.signals) us u m
  pinned f n a b e us u m ea order same eb at lone ee args =
      let h = unit_head C D f in
      let t = at_line C D f in
      let g = argument_lines C D f in
      let long = param_lines_long c f (of_param D f) in
      let many_args : length m.args.items ≡ length g = ap length args ∙ numbered_long (length b.signals) (arity C f) ∙ sym long in
      let la = lines_count n a open_register h ea in
      let lb = lines_count a b open_register t eb in
      record {
        order =
            map-append sig_of (unit_ties C D f (Some u)) (member_ties C D f (Some m))
            ∙ ap (λ l. l ++ map sig_of (member_ties C D f (Some m))) order
            ∙ ap (λ l. numbered (length n.signals) (length h) ++ l)
            (map-append sig_of (cond (many C f) (((of_function D (codes "at$") f, 1), m.at) ∷ []) []) (tied g m.args.items)
            ∙ ap (λ l. l ++ map sig_of (tied g m.args.items)) (at_sigs (many C f) (of_function D (codes "at$") f, 1) m.at ∙ at ∙ ap (λ x. numbered x (length t)) la)
            ∙ ap (λ l. numbered (length n.signals + length h) (length t) ++ l)
            (tied_sigs g m.args.items many_args ∙ args ∙ ap (λ x. numbered x (arity C f)) (lb ∙ ap (λ x. x + length t) la) ∙ ap
            (λ x. numbered (length n.signals + length h + length t) x) (sym long))
            ∙ sym (numbered_more (length n.signals + length h) (length t) (length g)))
            ∙ sym (numbered_more (length n.signals) (length h) (length t + length g))
            ∙ ap (λ x. numbered (length n.signals) x) (sym (length-append h (t ++ g) ∙ ap (λ x. length h + x) (length-append t g)));
        unit = same;
        args = many_args ∙ long;
        lone = lone;
      }

  few_at : (b : Bool) (l : Line) → length (cond b (l ∷ []) []) ≤ 1
  few_at true l = omega arith
  few_at false l = omega arith

  few_head : (b : Bool) (x y z : Line) → length (cond b (x ∷ y ∷ z ∷ []) []) ≤ 3
  few_head true x y z = omega arith
  few_head false x y z = omega arith

  pub few_lines : IsChecked c → (f : ℕ) → length (function_lines C D f) ≤ 20
  few_lines h f =
      let a = few_head (C.unit f == f) (of_function D (codes "run$") f, 1) (of_function D (codes "fin$") f, 1) (of_function D (codes "res$") f, C.result f) in
      let b = few_at (many C f) (of_function D (codes "at$") f, 1) in
      let e = param_lines_long c f (of_param D f) in
      let k = h.limits.params f in
      let p = length-append (unit_head C D f) (at_line C D f ++ argument_lines C D f) in
      let q = length-append (at_line C D f) (argument_lines C D f) in
      omega (arith, a, b, e, k, p, q)

  pub few_below : IsChecked c → (f : ℕ) → length (lines (function_lines C D) f) ≤ 20 * f
  unfolding lines
  few_below h zero = omega arith
  few_below h (suc f) =
      let a = few_below h f in
      let b = few_lines h f in
      let p = length-append (lines (function_lines C D) f) (function_lines C D f) in
      omega (arith, a, b, p)

-- ---- all functions

pub ties_cong : (g h : ℕ → List Tie) (n : ℕ) → ((i : ℕ) → i < n → g i ≡ h i) → ties g n ≡ ties h n
unfolding ties
ties_cong g h zero e = refl
ties_cong g h (suc n) e = ap (λ l. l ++ g n) (ties_cong g h n (λ i l. e i (omega (arith, l)))) ∙ ap (λ l. ties h n ++ l) (e n (omega arith))

module _ (C : Program) (D : Names) (first : ℕ) where
  pub none_pinned : FunctionsPinned C D first 0 [] []
  unfolding ties lines
  none_pinned = record {
    units_length = refl;
    members_length = refl;
    order = refl;
    unit = λ g l. absurd (omega (arith, l));
    args = λ i x e. absurd (cc);
    lone = λ i x e. absurd (cc);
  }

  pub more_pinned : (f next : ℕ) (us : List UnitPins) (ms : List MemberPins) (u : UnitPins) (m : MemberPins) → FunctionsPinned C D first f us ms → Pinned C D f next us u m
      → next ≡ first + length (lines (function_lines C D) f) → ((g : ℕ) → g < suc f → C.unit g ≤ g) → FunctionsPinned C D first (suc f) (us ++ u ∷ []) (ms ++ m ∷ [])
  unfolding ties lines
  more_pinned f next us ms u m all one e low =
      let lu = all.units_length in
      let lm = all.members_length in
      let here : slice_get (us ++ u ∷ []) f ≡ Some u = ap (slice_get (us ++ u ∷ [])) (sym lu) ∙ get_end us u in
      let here_m : slice_get (ms ++ m ∷ []) f ≡ Some m = ap (slice_get (ms ++ m ∷ [])) (sym lm) ∙ get_end ms m in
      let old = λ (g : ℕ) (l : g < f). get_in_front us (u ∷ []) g (omega (arith, l, lu)) in
      record {
        units_length = length-append us (u ∷ []) ∙ (omega (arith, lu));
        members_length = length-append ms (m ∷ []) ∙ (omega (arith, lm));
        order =
            map-append sig_of (ties (function_ties C D (us ++ u ∷ []) (ms ++ m ∷ [])) f) (function_ties C D (us ++ u ∷ []) (ms ++ m ∷ []) f)
            ∙ ap (λ l. map sig_of l ++ map sig_of (function_ties C D (us ++ u ∷ []) (ms ++ m ∷ []) f))
            (ties_cong (function_ties C D (us ++ u ∷ []) (ms ++ m ∷ [])) (function_ties C D us ms) f
            (λ g l. ap (λ o. unit_ties C D g o ++ member_ties C D g (slice_get (ms ++ m ∷ []) g)) (old g l)
            ∙ ap (λ o. unit_ties C D g (slice_get us g) ++ member_ties C D g o) (get_in_front ms (m ∷ []) g (omega (arith, l, lm)))))
            ∙ ap (λ l. l ++ map sig_of (function_ties C D (us ++ u ∷ []) (ms ++ m ∷ []) f)) all.order
            ∙ ap (λ l. numbered first (length (lines (function_lines C D) f)) ++ l)
            (ap (λ o. map sig_of (unit_ties C D f o ++ member_ties C D f (slice_get (ms ++ m ∷ []) f))) here
            ∙ ap (λ o. map sig_of (unit_ties C D f (Some u) ++ member_ties C D f o)) here_m
            ∙ one.order ∙ ap (λ x. numbered x (length (function_lines C D f))) e)
            ∙ sym (numbered_more first (length (lines (function_lines C D) f)) (length (function_lines C D f)))
            ∙ ap (λ x. numbered first x) (sym (length-append (lines (function_lines C D) f) (function_lines C D f)));
        unit = λ g l. by g l (g == f) refl;
        args = each_push ms m _ all.args (subst (λ g. length m.args.items ≡ length (C.params g)) (sym lm) one.args);
        lone = λ g x q none y w. lone_at g x q none y w;
      }
    where
      new_unit : slice_get (us ++ u ∷ []) f ≡ Some u
      new_unit = ap (slice_get (us ++ u ∷ [])) (sym all.units_length) ∙ get_end us u

      at_front : (g : ℕ) → g < f → slice_get (us ++ u ∷ []) g ≡ slice_get us g
      at_front g l = let lu = all.units_length in get_in_front us (u ∷ []) g (omega (arith, l, lu))

      by_new : (b : Bool) → (C.unit f == f) ≡ b → slice_get (us ++ u ∷ []) f ≡ slice_get (us ++ u ∷ []) (C.unit f)
      by_new true q = ap (slice_get (us ++ u ∷ [])) (sym (eqb-true (C.unit f) f q))
      by_new false q =
          let other = eqb-false (C.unit f) f q in
          let le = low f (omega arith) in
          new_unit ∙ sym (one.unit other) ∙ sym (at_front (C.unit f) (omega (arith, le, other)))

      by : (g : ℕ) → g < suc f → (b : Bool) → (g == f) ≡ b → slice_get (us ++ u ∷ []) g ≡ slice_get (us ++ u ∷ []) (C.unit g)
      by g l true q = subst (λ x. slice_get (us ++ u ∷ []) x ≡ slice_get (us ++ u ∷ []) (C.unit x)) (sym (eqb-true g f q)) (by_new (C.unit f == f) refl)
      by g l false q =
          let other = eqb-false g f q in
          let le = low g l in
          at_front g (omega (arith, l, other)) ∙ all.unit g (omega (arith, l, other)) ∙ sym (at_front (C.unit g) (omega (arith, le, l, other)))

      lone_at : (g : ℕ) (x : MemberPins) → slice_get (ms ++ m ∷ []) g ≡ Some x → many C g ≡ false → (y : UnitPins) → slice_get (us ++ u ∷ []) g ≡ Some y → x.at ≡ y.run
      lone_at g x q none y w = elim (get_pushed ms m x g q) [
        | inl r ↦
            let lm = all.members_length in
            let inside = slice_get_within ms g x r in
            all.lone g x r none y (sym (at_front g (omega (arith, lm, inside))) ∙ w)
        | inr r ↦
            let e : g ≡ f = r.0 ∙ all.members_length in
            let same : Some u ≡ Some y = sym new_unit ∙ ap (slice_get (us ++ u ∷ [])) (sym e) ∙ w in
            let is : u ≡ y = cc in
            ap (λ (z : MemberPins). z.at) r.1 ∙ one.lone (ap (many C) (sym e) ∙ none) ∙ ap (λ (z : UnitPins). z.run) is
      ]

-- ---- sites

module _ (C : Program) (P : Choice) (first : ℕ) (us : List UnitPins) where
  pub none_sited : (s : SitePins) → SitesPinned C P first 1 us (s ∷ [])
  unfolding ties lines
  none_sited s = record { sites_length = refl; order = refl; spare = λ j x e l. by j x e l }
    where
      by : (j : ℕ) (x : SitePins) → slice_get (s ∷ []) j ≡ Some x → 0 < j → P.kept j ≡ false → (u : UnitPins) → slice_get us (C.callee j) ≡ Some u → x.keep ≡ u.res
      by zero x e l = absurd (omega (arith, l))
      by (suc j) x e l = absurd (cc)

  pub more_sited : (k next : ℕ) (ss : List SitePins) (s : SitePins) → SitesPinned C P first k us ss → SitePinned C P k next us s
      → next ≡ first + length (lines (site_lines C P) k) → SitesPinned C P first (suc k) us (ss ++ s ∷ [])
  unfolding ties lines
  more_sited k next ss s all one e =
      let ls = all.sites_length in
      let here : slice_get (ss ++ s ∷ []) k ≡ Some s = ap (slice_get (ss ++ s ∷ [])) (sym ls) ∙ get_end ss s in
      record {
        sites_length = length-append ss (s ∷ []) ∙ (omega (arith, ls));
        order =
            map-append sig_of (ties (site_ties C P (ss ++ s ∷ [])) k) (site_ties C P (ss ++ s ∷ []) k)
            ∙ ap (λ l. map sig_of l ++ map sig_of (site_ties C P (ss ++ s ∷ []) k))
            (ties_cong (site_ties C P (ss ++ s ∷ [])) (site_ties C P ss) k (λ j l. ap (λ o. call_registers C P j o) (get_in_front ss (s ∷ []) j (omega (arith, l, ls)))))
            ∙ ap (λ l. l ++ map sig_of (site_ties C P (ss ++ s ∷ []) k)) all.order
            ∙ ap (λ l. numbered first (length (lines (site_lines C P) k)) ++ l)
            (ap (λ o. map sig_of (call_registers C P k o)) here ∙ one.order ∙ ap (λ x. numbered x (length (site_lines C P k))) e)
            ∙ sym (numbered_more first (length (lines (site_lines C P) k)) (length (site_lines C P k)))
            ∙ ap (λ x. numbered first x) (sym (length-append (lines (site_lines C P) k) (site_lines C P k)));
        spare = each_push ss s _ all.spare (λ pos. subst (λ j. P.kept j ≡ false → (u : UnitPins) → slice_get us (C.callee j) ≡ Some u → s.keep ≡ u.res) (sym ls) one.spare);
      }

few_site : (a b : Bool) (x y z : Line) → length (cond a (x ∷ y ∷ cond b (z ∷ []) []) []) ≤ 3
few_site true true x y z = omega arith
few_site true false x y z = omega arith
few_site false b x y z = omega arith

pub few_sites : (C : Program) (P : Choice) (k : ℕ) → length (lines (site_lines C P) k) ≤ 3 * k
unfolding lines
few_sites C P zero = omega arith
few_sites C P (suc k) =
    let a = few_sites C P k in
    let b = few_site (nat_lt 0 k) (P.kept k) (of_site (codes "sent$") k, 1) (of_site (codes "got$") k, 1) (of_site (codes "keep$") k, C.result (C.callee k)) in
    let p = length-append (lines (site_lines C P) k) (site_lines C P k) in
    omega (arith, a, b, p)

-- ---- one more, as a loop has it

pub lines_next : (n m k : Netlist) (g : Line → Signal) (h : ℕ → List Line) (f : ℕ) → m ≡ with_signals n (map g (lines h f)) → k ≡ with_signals m
    (map g (h f)) → k ≡ with_signals n (map g (lines h (f + 1)))
unfolding lines
lines_next n m k g h f e q =
    lines_on n m k g (lines h f) (h f) e q ∙ ap (λ x. with_signals n (map g (lines h x))) (let r : suc f ≡ f + 1 = omega arith in r)

pub lines_start : (n : Netlist) (g : Line → Signal) (h : ℕ → List Line) → n ≡ with_signals n (map g (lines h 0))
unfolding lines
lines_start n g h = lines_none n g

-- no line for number 0
pub lines_from_one : (n : Netlist) (g : Line → Signal) (h : ℕ → List Line) → h 0 ≡ [] → n ≡ with_signals n (map g (lines h 1))
unfolding lines
lines_from_one n g h e = lines_none n g ∙ ap (λ l. with_signals n (map g l)) (sym e)

pub none_pinned_at : (C : Program) (D : Names) (first : ℕ) (us : List UnitPins) (ms : List MemberPins) → us ≡ [] → ms ≡ [] → FunctionsPinned C D first 0 us ms
none_pinned_at C D first us ms e q = subst (λ x. FunctionsPinned C D first 0 x ms) (sym e) (subst (λ x. FunctionsPinned C D first 0 [] x) (sym q) (none_pinned C D first))

pub more_pinned_at : (c : CheckedProgram) → IsChecked c → (first f next : ℕ) (us us' slice : List UnitPins) (ms ms' : List MemberPins) (u : UnitPins) (m : MemberPins) → f < c.program.functions
    → FunctionsPinned c.program c.names first f us ms → Pinned c.program c.names f next slice u m → slice ≡ us → us' ≡ us ++ u ∷ [] → ms' ≡ ms ++ m ∷ []
    → next ≡ first + length (lines (function_lines c.program c.names) f) → FunctionsPinned c.program c.names first (f + 1) us' ms'
more_pinned_at c h first f next us us' slice ms ms' u m l all one e p q n =
    subst (λ x. FunctionsPinned c.program c.names first (f + 1) x ms') (sym p)
    (subst (λ x. FunctionsPinned c.program c.names first (f + 1) (us ++ u ∷ []) x) (sym q)
    (subst (λ x. FunctionsPinned c.program c.names first x (us ++ u ∷ []) (ms ++ m ∷ [])) (let r : suc f ≡ f + 1 = omega arith in r)
    (more_pinned c.program c.names first f next us ms u m all (subst (λ x. Pinned c.program c.names f next x u m) e one) n (λ g k. (h.formed.first g (omega (arith, k, l))).0))))

pub functions_count : (c : CheckedProgram) → IsChecked c → (n m : Netlist) (f : ℕ) → m ≡ with_signals n
    (map open_register (lines (function_lines c.program c.names) f)) → length m.signals ≤ length n.signals + 20 * f
functions_count c h n m f e =
    let a = lines_count n m open_register (lines (function_lines c.program c.names) f) e in
    let b = few_below c h f in
    omega (arith, a, b)

pub more_sited_at : (C : Program) (P : Choice) (first k next : ℕ) (us slice : List UnitPins) (ss ss' : List SitePins) (s : SitePins) → SitesPinned C P
    first k us ss → SitePinned C P k next slice s → slice ≡ us
    → ss' ≡ ss ++ s ∷ [] → next ≡ first + length (lines (site_lines C P) k) → SitesPinned C P first (k + 1) us ss'
more_sited_at C P first k next us slice ss ss' s all one e p n =
    subst (λ x. SitesPinned C P first (k + 1) us x) (sym p)
    (subst (λ x. SitesPinned C P first x us (ss ++ s ∷ [])) (let r : suc k ≡ k + 1 = omega arith in r)
    (more_sited C P first us k next ss s all (subst (λ x. SitePinned C P k next x s) e one) n))

pub none_sited_at : (C : Program) (P : Choice) (first : ℕ) (us : List UnitPins) (ss : List SitePins) (s : SitePins) → ss ≡ s ∷ [] → SitesPinned C P first 1 us ss
none_sited_at C P first us ss s e = subst (λ x. SitesPinned C P first 1 us x) (sym e) (none_sited C P first us s)

-- ---- the named wires

pub body_wires_count : (D : Names) (f : ℕ) → length (lines (function_wires D) f) ≡ 2 * f
unfolding lines
body_wires_count D zero = omega arith
body_wires_count D (suc f) =
    let a = body_wires_count D f in
    let p = length-append (lines (function_wires D) f) (function_wires D f) in
    omega (arith, a, p)

few_call : (a b : Bool) (x y z w : Line) → length (cond a (x ∷ y ∷ (cond b (z ∷ []) [] ++ w ∷ [])) []) ≤ 4
few_call true true x y z w = omega arith
few_call true false x y z w = omega arith
few_call false b x y z w = omega arith

pub few_calls : (C : Program) (P : Choice) (k : ℕ) → length (lines (site_wires C P) k) ≤ 4 * k
unfolding lines
few_calls C P zero = omega arith
few_calls C P (suc k) =
    let a = few_calls C P k in
    let b = few_call (nat_lt 0 k) (P.arbiter (unit_for C k)) (of_site (codes "want$") k, 1) (of_site (codes "ret$") k, 1) (of_site (codes "arb$") k, 1) (of_site (codes "go$") k, 1) in
    let p = length-append (lines (site_wires C P) k) (site_wires C P k) in
    omega (arith, a, b, p)

-- main is the last function
pub main_is : (c : CheckedProgram) (n : ℕ) → n ≡ c.program.functions → n - 1 ≡ c.program.main
main_is c n e = ap (λ x. x - 1) e ∙ sym (main_is_last c)
