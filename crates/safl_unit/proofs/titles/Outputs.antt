-- No signal has the name of an output.
use Rattle.safl_unit.proofs.Common.{AreTemps, Choice, Grows, Netlist, Signal, bytes_eq-Decides, codes, refusal, with_output}
use Rattle.std.proofs.Common.{◌≡◌, ℕ, suc, ◌≤◌, List, [], ◌∷◌, ◌++◌, map, None, Bool, true, false, ◌||◌, bytes_eq, refl, sym, ap, subst, ◌∙◌, arith}
use Rattle.std.proofs.lemmas.Bool.{or_from}
use Rattle.safl_term.specs.Checked.{CheckedProgram, IsChecked}
use Rattle.safl_net.specs.Names.{is_good, is_reserved, is_temp, has_name, named_signal, named_output, wires}
use Rattle.safl_circuit.specs.Layout.{lines, site_lines, layout_inputs, layout_wires}
use Rattle.safl_unit.specs.Finished.{input_line, open_register, open_wire, declared_signals, declared_net}
use Rattle.safl_unit.proofs.layout.Ordering.{units_in_order}
use Rattle.safl_unit.proofs.titles.Apart.{Each, Between, each_weaker, head_of}
use Rattle.safl_unit.proofs.titles.Titles.{titled, all_lines, all_heads}
use Rattle.safl_unit.proofs.layout.Adding.{lines_of, lines_are, signals, unnamed, unrefused}

abbrev names : List Signal → List (List ℕ)
names gs = map (λ (g : Signal). g.name) gs

abbrev one_named : List (List ℕ) → List ℕ → Bool
one_named [] x = false
one_named (y ∷ ys) x = bytes_eq x y || one_named ys x

by_names : (gs : List Signal) (x : List ℕ) → named_signal gs x ≡ one_named (names gs) x
by_names [] x = refl
by_names (g ∷ gs) x = ap (λ b. bytes_eq x g.name || b) (by_names gs x)

same_names : (gs hs : List Signal) (x : List ℕ) → names gs ≡ names hs → named_signal gs x ≡ named_signal hs x
same_names gs hs x e = by_names gs x ∙ ap (λ l. one_named l x) e ∙ sym (by_names hs x)

named_more : (xs ys : List Signal) (x : List ℕ) → named_signal xs x ≡ false → named_signal ys x ≡ false → named_signal (xs ++ ys) x ≡ false
named_more [] ys x e f = f
named_more (g ∷ xs) ys x e f = by (bytes_eq x g.name) (named_signal xs x) e (λ q. named_more xs ys x q f)
  where
    by : (a b : Bool) → (a || b) ≡ false → (b ≡ false → named_signal (xs ++ ys) x ≡ false) → (a || named_signal (xs ++ ys) x) ≡ false
    by true b e f = absurd (cc)
    by false b e f = f e

-- no signal has a name that no line has
other_names : (gs : List Signal) (h : Signal) → Each (λ l. h.name ≡ l.0 → ⊥) (lines_of gs) → named_signal gs h.name ≡ false
other_names [] h a = refl
other_names (g ∷ gs) h a = unnamed h g (named_signal gs h.name) a.0 (other_names gs h a.1)

temps_named : (i : ℕ) (gs : List Signal) (x : List ℕ) → is_temp x ≡ false → AreTemps i gs → named_signal gs x ≡ false
temps_named i [] x e h = refl
temps_named i (g ∷ gs) x e h = by (bytes_eq x g.name) refl (temps_named (suc i) gs x e h.2)
  where
    by : (b : Bool) → bytes_eq x g.name ≡ b → named_signal gs x ≡ false → (b || named_signal gs x) ≡ false
    by true q r = let t : false ≡ true = sym e ∙ ap is_temp ((bytes_eq-Decides x g.name).0 q ∙ h.0) in absurd (cc)
    by false q r = r

module _ (c : CheckedProgram) (checked : IsChecked c) (P : Choice) where
  declared_same : declared_signals c.program c.names P ≡ signals c checked P
  declared_same =
      ap (λ ls. map input_line (layout_inputs c.program c.names) ++
      (map open_register (ls ++ lines (site_lines c.program P) (suc c.program.sites)) ++ map open_wire (layout_wires c.program c.names P)))
      (units_in_order c checked)

  -- a name without one of the heads
  declared_none : (h : Signal) → 16 ≤ head_of h.name → named_signal (declared_signals c.program c.names P) h.name ≡ false
  declared_none h l =
      ap (λ gs. named_signal gs h.name) declared_same
      ∙ other_names (signals c checked P) h
      (subst (Each (λ l. h.name ≡ l.0 → ⊥)) (sym (lines_are c checked P))
      (each_weaker (λ l. Between 0 16 l.0) (λ l. h.name ≡ l.0 → ⊥) (all_lines c.program c.names P (titled c checked))
      (λ x b e. let s = ap head_of e in let m = b.most in absurd (omega (arith, s, m, l)))
      (all_heads c.program c.names P (titled c checked))))

  module _ (old m : Netlist) (grown : Grows (declared_net c.program c.names P) old) (same : names m.signals ≡ names old.signals) where
    unused : (h : Signal) → 16 ≤ head_of h.name → is_temp h.name ≡ false → named_signal m.signals h.name ≡ false
    unused h l e =
        same_names m.signals old.signals h.name same
        ∙ ap (λ gs. named_signal gs h.name) grown.is
        ∙ named_more (declared_signals c.program c.names P) grown.more h.name (declared_none h l)
        (temps_named (wires (declared_signals c.program c.names P)) grown.more h.name e grown.temps)

    pub done_free : m.outputs ≡ [] → refusal m (codes "done") ≡ None
    unfolding is_good is_reserved
    done_free e =
        let head : head_of (codes "done") ≡ 16 = refl in
        unrefused (is_good (codes "done")) (has_name m (codes "done")) refl
        (or_from (named_signal m.signals (codes "done")) (named_output m.outputs (codes "done"))
        (unused (input_line (codes "done", 1)) (omega (arith, head)) refl) (ap (λ os. named_output os (codes "done")) e))

    pub result_free : (a : Netlist) (s : ℕ) → m.outputs ≡ [] → a ≡ with_output m (codes "done") s → refusal a (codes "result") ≡ None
    unfolding is_good is_reserved
    result_free a s e f =
        let head : head_of (codes "result") ≡ 16 = refl in
        ap (λ (x : Netlist). refusal x (codes "result")) f
        ∙ unrefused (is_good (codes "result")) (has_name (with_output m (codes "done") s) (codes "result")) refl
        (or_from (named_signal m.signals (codes "result")) (named_output (m.outputs ++ (codes "done", s) ∷ []) (codes "result")) (unused (input_line (codes "result", 1)) (omega (arith, head)) refl)
        (ap (λ os. named_output (os ++ (codes "done", s) ∷ []) (codes "result")) e))
