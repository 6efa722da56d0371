-- Signals that a net may take one after another.
use Rattle.safl_unit.proofs.Common.{CheckedProgram, Choice, IsChecked, Names, Netlist, Program, Signal, append-nil, bytes_eq-Decides, codes}
use Rattle.safl_unit.proofs.Common.{eq-eqb, eqb-false, eqb-true, map-append, nat_tests, of_function, of_site, refusal}
use Rattle.std.proofs.Common.{◌≡◌, ℕ, zero, suc, ◌<◌, ◌≤◌, List, [], ◌∷◌, ◌++◌, map, take, Some, None, Bool, true, false, cond, ◌||◌, ◌==◌, nat_lt}
use Rattle.std.proofs.Common.{slice_get, bytes_eq, refl, sym, ap, subst, ◌∙◌, arith, append_assoc}
use Rattle.safl_net.specs.declared.net.NetErr.TheVariants.{NameTaken, BadName}
use Rattle.safl_net.specs.Names.{is_good, named_signal}
use Rattle.safl_circuit.specs.Layout.{Line, lines, site_lines, site_wires, layout_inputs, layout_wires}
use Rattle.safl_unit.specs.Finished.{input_line, open_register, open_wire}
use Rattle.safl_unit.specs.Declaring.{with_signals, MayAdd, unit_head, function_lines, port_lines, arbiter_line}
use Rattle.safl_unit.proofs.layout.Declaring.{lines_on}
use Rattle.safl_unit.proofs.titles.Apart.{Each, Other, Differ, Between, each_weaker}
use Rattle.safl_unit.proofs.titles.Titles.{titled, all_lines, all_heads, all_differ}

-- ---- some of them, and then the others

pub may_first : (n : Netlist) (xs ys : List Signal) → MayAdd n (xs ++ ys) → MayAdd n xs
may_first n xs ys h = record { each = λ a b g e. h.each a (b ++ ys) g (ap (λ l. l ++ ys) e ∙ append_assoc a (g ∷ b) ys) }

pub may_rest : (n m : Netlist) (xs ys : List Signal) → MayAdd n (xs ++ ys) → m ≡ with_signals n xs → MayAdd m ys
may_rest n m xs ys h e = record {
  each = λ a b g q.
      ap (λ (k : Netlist). refusal (with_signals k a) g.name) e
      ∙ ap (λ l. refusal (record { signals = l; outputs = n.outputs }) g.name) (append_assoc n.signals xs a)
      ∙ h.each (xs ++ a) b g (ap (λ l. xs ++ l) q ∙ sym (append_assoc xs a (g ∷ b)));
}

pub may_now : (n : Netlist) (g : Signal) (gs : List Signal) → MayAdd n (g ∷ gs) → refusal n g.name ≡ None
may_now n g gs h = ap (λ l. refusal (record { signals = l; outputs = n.outputs }) g.name) (sym (append-nil n.signals)) ∙ h.each [] gs g refl

pub may_then : (n m : Netlist) (g : Signal) (gs : List Signal) → MayAdd n (g ∷ gs) → m ≡ with_signals n (g ∷ []) → MayAdd m gs
may_then n m g gs h e = may_rest n m (g ∷ []) gs h e

-- ---- one line at a time

pub named_so : (n : Netlist) (x y : List ℕ) → x ≡ y → refusal n y ≡ None → refusal n x ≡ None
named_so n x y e h = ap (refusal n) e ∙ h

pub may_step : (n m : Netlist) (f : Line → Signal) (x y : List ℕ) (w : ℕ) (gs : List Signal) → x ≡ y → MayAdd n (f (y, w) ∷ gs) → m ≡ with_signals n (f (x, w) ∷ []) → MayAdd m gs
may_step n m f x y w gs e h q = may_then n m (f (y, w)) gs h (q ∙ ap (λ (z : List ℕ). with_signals n (f (z, w) ∷ [])) e)

-- ---- for lines

-- the lines for the numbers below n begin with those for the numbers below i
begins : (g : ℕ → List Line) (i n : ℕ) → i ≤ n → (rest : List Line) × (lines g n ≡ lines g i ++ rest)
unfolding lines
begins g i zero l = ([], let e : 0 ≡ i = omega (arith, l) in ap (lines g) e ∙ sym (append-nil (lines g i)))
begins g i (suc n) l = by (i == suc n) refl (begins g i n)
  where
    by : (t : Bool) → (i == suc n) ≡ t → (i ≤ n → (rest : List Line) × (lines g n ≡ lines g i ++ rest)) → (rest : List Line) × (lines g (suc n) ≡ lines g i ++ rest)
    by true q r = let e = eqb-true i (suc n) q in ([], ap (lines g) (sym e) ∙ sym (append-nil (lines g i)))
    by false q r = let o = eqb-false i (suc n) q in let b = r (omega (arith, l, o)) in (b.0 ++ g n, ap (λ x. x ++ g n) b.1 ∙ append_assoc (lines g i) b.0 (g n))

parted : (ls : List Line) (i : ℕ) (l : Line) → slice_get ls i ≡ Some l → (rest : List Line) × (ls ≡ take i ls ++ l ∷ rest)
parted [] i l e = absurd (cc)
parted (x ∷ ls) zero l e = let q : x ≡ l = cc in (ls, ap (λ y. y ∷ ls) q)
parted (x ∷ ls) (suc i) l e = let b = parted ls i l e in (b.0, ap (λ y. x ∷ y) b.1)

module _ (f : Line → Signal) where
  pub lines_first : (n : Netlist) (xs ys : List Line) → MayAdd n (map f (xs ++ ys)) → MayAdd n (map f xs)
  lines_first n xs ys h = may_first n (map f xs) (map f ys) (subst (MayAdd n) (map-append f xs ys) h)

  pub lines_rest : (n m : Netlist) (xs ys : List Line) → MayAdd n (map f (xs ++ ys)) → m ≡ with_signals n (map f xs) → MayAdd m (map f ys)
  lines_rest n m xs ys h e = may_rest n m (map f xs) (map f ys) (subst (MayAdd n) (map-append f xs ys) h) e

  pub lines_if : (n : Netlist) (b : Bool) (ls : List Line) → b ≡ true → MayAdd n (map f (cond b ls [])) → MayAdd n (map f ls)
  lines_if n true ls e h = h
  lines_if n false ls e h = absurd (cc)

  pub lines_same : (n : Netlist) (xs ys : List Line) → xs ≡ ys → MayAdd n (map f xs) → MayAdd n (map f ys)
  lines_same n xs ys e h = subst (λ l. MayAdd n (map f l)) e h

  -- those for one of the numbers below n, after those for the numbers below it
  pub lines_at : (n m : Netlist) (g : ℕ → List Line) (i k : ℕ) → i < k → MayAdd n (map f (lines g k)) → m ≡ with_signals n (map f (lines g i)) → MayAdd m (map f (g i))
  unfolding lines
  lines_at n m g i k l h e =
      let b = begins g (suc i) k (omega (arith, l)) in
      lines_rest n m (lines g i) (g i) (lines_first n (lines g (suc i)) b.0 (lines_same n (lines g k) (lines g (suc i) ++ b.0) b.1 h)) e

  -- one of them, after those before it
  pub line_at : (n m : Netlist) (ls : List Line) (i : ℕ) (l : Line) → slice_get ls i ≡ Some l → MayAdd n (map f ls) → m ≡ with_signals n (map f (take i ls)) → refusal m (f l).name ≡ None
  line_at n m ls i l e h q =
      let b = parted ls i l e in
      ap (λ (k : Netlist). refusal k (f l).name) q
      ∙ h.each (map f (take i ls)) (map f b.0) (f l) (ap (map f) b.1 ∙ map-append f (take i ls) (l ∷ b.0))

-- ---- the lines of a unit, of a function and of a site

some_number : (k : ℕ) → 1 ≤ k → nat_lt 0 k ≡ true
some_number k l = grind (arith, nat_tests)

module _ (C : Program) (D : Names) (P : Choice) (n : Netlist) where
  pub may_unit : (f : ℕ) → C.unit f ≡ f → MayAdd n (map open_register (unit_head C D f))
      → MayAdd n (open_register (of_function D (codes "run$") f, 1) ∷ open_register (of_function D (codes "fin$") f, 1) ∷ open_register (of_function D (codes "res$") f, C.result f) ∷ [])
  may_unit f e h =
      lines_if open_register n (C.unit f == f) ((of_function D (codes "run$") f, 1) ∷ (of_function D (codes "fin$") f, 1) ∷
      (of_function D (codes "res$") f, C.result f) ∷ []) (eq-eqb (C.unit f) f e) h

  pub may_site : (k : ℕ) → 1 ≤ k → MayAdd n (map open_register (site_lines C P k))
      → MayAdd n (open_register (of_site (codes "sent$") k, 1) ∷ open_register (of_site (codes "got$") k, 1) ∷ map open_register
      (cond (P.kept k) ((of_site (codes "keep$") k, C.result (C.callee k)) ∷ []) []))
  may_site k l h =
      lines_if open_register n (nat_lt 0 k) ((of_site (codes "sent$") k, 1) ∷ (of_site (codes "got$") k, 1) ∷ cond (P.kept k)
      ((of_site (codes "keep$") k, C.result (C.callee k)) ∷ []) []) (some_number k l) h

  pub may_call : (k : ℕ) → 1 ≤ k → MayAdd n (map open_wire (site_wires C P k))
      → MayAdd n (open_wire (of_site (codes "want$") k, 1) ∷ open_wire (of_site (codes "ret$") k, 1) ∷ map open_wire (arbiter_line C P k ++ (of_site (codes "go$") k, 1) ∷ []))
  may_call k l h =
      lines_if open_wire n (nat_lt 0 k) ((of_site (codes "want$") k, 1) ∷ (of_site (codes "ret$") k, 1) ∷ (arbiter_line C P k ++ (of_site (codes "go$") k, 1) ∷ [])) (some_number k l) h

-- ---- the signals of a circuit

pub unnamed : (g h : Signal) (b : Bool) → (g.name ≡ h.name → ⊥) → b ≡ false → (bytes_eq g.name h.name || b) ≡ false
unnamed g h b f e = by (bytes_eq g.name h.name) refl
  where
    by : (t : Bool) → bytes_eq g.name h.name ≡ t → (t || b) ≡ false
    by true q = absurd (f ((bytes_eq-Decides g.name h.name).0 q))
    by false q = e

abbrev pub lines_of : List Signal → List Line
lines_of gs = map (λ (g : Signal). (g.name, g.width)) gs

each_after : (Q : Line → Type 0) (a b : List Signal) (g : Signal) → Each Q (lines_of (a ++ g ∷ b)) → Q (g.name, g.width)
each_after Q [] b g h = h.0
each_after Q (x ∷ a) b g h = each_after Q a b g h.1

fresh : (a b : List Signal) (g : Signal) → Differ (lines_of (a ++ g ∷ b)) → named_signal a g.name ≡ false
fresh [] b g h = refl
fresh (x ∷ a) b g h = unnamed g x (named_signal a g.name) (λ e. each_after (Other (x.name, x.width)) a b g h.0 (sym e)) (fresh a b g h.1)

pub unrefused : (a b : Bool) → a ≡ true → b ≡ false → cond a (cond b (Some NameTaken) None) (Some BadName) ≡ None
unrefused true false e f = refl
unrefused true true e f = absurd (cc)
unrefused false b e f = absurd (cc)

or_nothing : (a : Bool) → a ≡ false → (a || false) ≡ false
or_nothing true e = absurd (cc)
or_nothing false e = refl

-- good and different names may all be added to the net without signals
pub may_add : (n : Netlist) (gs : List Signal) → n ≡ record { signals = []; outputs = [] } → Each (λ l. is_good l.0 ≡ true) (lines_of gs) → Differ (lines_of gs) → MayAdd n gs
may_add n gs none good differ = record {
  each = λ a b g e.
      ap (λ (k : Netlist). refusal (with_signals k a) g.name) none
      ∙ unrefused (is_good g.name) (named_signal a g.name || false)
      (each_after (λ l. is_good l.0 ≡ true) a b g (subst (λ l. Each (λ x. is_good x.0 ≡ true) (lines_of l)) e good))
      (or_nothing (named_signal a g.name) (fresh a b g (subst (λ l. Differ (lines_of l)) e differ)));
}

lines_back : (f : Line → Signal) (ls : List Line) → ((l : Line) → ((f l).name, (f l).width) ≡ l) → lines_of (map f ls) ≡ ls
lines_back f [] e = refl
lines_back f (l ∷ ls) e = ap (λ x. x ∷ lines_of (map f ls)) (e l) ∙ ap (λ x. l ∷ x) (lines_back f ls e)

module _ (c : CheckedProgram) (checked : IsChecked c) (P : Choice) where
  abbrev C : Program
  C = c.program

  abbrev D : Names
  D = c.names

  abbrev registers : List Line
  registers = lines (function_lines C D) C.functions ++ lines (site_lines C P) (suc C.sites)

  abbrev pub signals : List Signal
  signals = map input_line (layout_inputs C D) ++ (map open_register registers ++ map open_wire (layout_wires C D P))

  pub lines_are : lines_of signals ≡ all_lines C D P (titled c checked)
  lines_are =
      map-append (λ (g : Signal). (g.name, g.width)) (map input_line (layout_inputs C D)) (map open_register registers ++ map open_wire (layout_wires C D P))
      ∙ ap (λ l. l ++ lines_of (map open_register registers ++ map open_wire (layout_wires C D P))) (lines_back input_line (layout_inputs C D) (λ l. refl))
      ∙ ap (λ l. layout_inputs C D ++ l)
      (map-append (λ (g : Signal). (g.name, g.width)) (map open_register registers) (map open_wire (layout_wires C D P))
      ∙ ap (λ l. l ++ lines_of (map open_wire (layout_wires C D P))) (lines_back open_register registers (λ l. refl))
      ∙ ap (λ l. registers ++ l) (lines_back open_wire (layout_wires C D P) (λ l. refl)))

  pub may_declare : (n : Netlist) → n ≡ record { signals = []; outputs = [] } → MayAdd n signals
  may_declare n none =
      may_add n signals none
      (subst (Each (λ l. is_good l.0 ≡ true)) (sym lines_are) (each_weaker (λ l. Between 0 16 l.0) (λ l. is_good l.0 ≡ true)
      (all_lines C D P (titled c checked)) (λ l h. h.good) (all_heads C D P (titled c checked))))
      (subst Differ (sym lines_are) (all_differ C D P (titled c checked)))

  -- what is left to be added, on the way
  module _ (n a : Netlist)
      (none : n ≡ record { signals = []; outputs = [] })
      (start : a ≡ with_signals n (input_line (codes "start", 1) ∷ [])) where
    abbrev later : List Signal
    later = map open_register registers ++ map open_wire (layout_wires C D P)

    after_start : MayAdd a (map input_line (port_lines C D C.main) ++ later)
    after_start = may_then n a (input_line (codes "start", 1)) (map input_line (port_lines C D C.main) ++ later) (may_declare n none) start

    pub may_ports : MayAdd a (map input_line (port_lines C D C.main))
    may_ports = may_first a (map input_line (port_lines C D C.main)) later after_start

  module _ (n a b : Netlist)
      (none : n ≡ record { signals = []; outputs = [] })
      (start : a ≡ with_signals n (input_line (codes "start", 1) ∷ []))
      (ports : b ≡ with_signals a (map input_line (port_lines C D C.main))) where
    after_ports : MayAdd b (map open_register registers ++ map open_wire (layout_wires C D P))
    after_ports = may_rest a b (map input_line (port_lines C D C.main)) (map open_register registers ++ map open_wire (layout_wires C D P)) (after_start n a none start) ports

    all_registers : MayAdd b (map open_register registers)
    all_registers = may_first b (map open_register registers) (map open_wire (layout_wires C D P)) after_ports

    pub may_functions : MayAdd b (map open_register (lines (function_lines C D) C.functions))
    may_functions = lines_first open_register b (lines (function_lines C D) C.functions) (lines (site_lines C P) (suc C.sites)) all_registers

    pub may_sites : (d : Netlist) → d ≡ with_signals b (map open_register (lines (function_lines C D) C.functions)) → MayAdd d (map open_register (lines (site_lines C P) (suc C.sites)))
    may_sites d functions = lines_rest open_register b d (lines (function_lines C D) C.functions) (lines (site_lines C P) (suc C.sites)) all_registers functions

    pub may_wires : (d e : Netlist) → d ≡ with_signals b (map open_register (lines (function_lines C D) C.functions)) → e ≡ with_signals d
        (map open_register (lines (site_lines C P) (suc C.sites))) → MayAdd e (map open_wire (layout_wires C D P))
    may_wires d e functions sites = may_rest b e (map open_register registers) (map open_wire (layout_wires C D P)) after_ports
        (lines_on b d e open_register (lines (function_lines C D) C.functions) (lines (site_lines C P) (suc C.sites)) functions sites)
