-- The parts of a simulator are what it keeps.
use Rattle.std.proofs.Common.{◌≡◌, ◌⊎◌, inl, inr, ℕ, zero, suc, ◌+◌, ◌/◌, ◌<◌, ◌^◌, List, [], ◌∷◌, ◌++◌, map, length, take, drop, get_or, Option}
use Rattle.std.proofs.Common.{Some, None, slice_get, slice_index, refl, sym, ap, subst, ◌∙◌, arith, append_assoc}
use Rattle.std.proofs.lemmas.Nat.{pow_pos}
use Rattle.std.proofs.lemmas.List.{length_push, map_push}
use Rattle.std.proofs.lemmas.Option.{slice_get_within}
use Rattle.std.proofs.lemmas.Bool.{cases_lt}
use Rattle.safl_net.specs.declared.cell.Sig.{Sig}
use Rattle.safl_net.specs.Netlist.{Netlist, Signal, Kind, Input, Reg, Wire, Cell, with_input}
use Rattle.safl_net.specs.Valuations.{kind_reset}
use Rattle.safl_net.specs.Making.{numbers, kind_at, kind_in, cell_in}
use Rattle.safl_net.specs.Rules.{IsNetlist, KindFits, CellFits}
use Rattle.safl_net.specs.Laws.{FitWidths}
use Rattle.safl_order.specs.Order.{Order, IsOrder}
use Rattle.safl_sim.specs.declared.step.Step.{Step}
use Rattle.safl_sim.specs.declared.step.Register.{Register}
use Rattle.safl_sim.specs.Marks.{marked, first_register}
use Rattle.safl_sim.specs.Readers.{Lists, AreReaders, Inside}
use Rattle.safl_sim.proofs.MarksByOne.{none_in}
use Rattle.safl_sim.specs.Places.{inputs_from, inputs_of, resets}
use Rattle.safl_sim.specs.States.{placed, AreReset}
use Rattle.safl_sim.specs.Steps.{IsReg, IsStep, AreSteps, AreRegisters, KeepsSimulation}
use Rattle.safl_sim.proofs.Placing.{placed_long, placed_rest, placed_at}
use Rattle.safl_word.proofs.Joining.{index_past}
use Rattle.safl_word.proofs.Lists.{get_pushed, get_some, index_end, index_front, take_next}
use Rattle.safl_word.proofs.Naturals.{lower_or_last}
use Rattle.safl_net.proofs.ArgumentWidths.{drop_at}

-- a cell that a net shows fits its wire
pub cell_found : (n : Netlist) (s : ℕ) (c : Cell) → IsNetlist n → cell_in (kind_at n s) ≡ Some c → (width : ℕ) × CellFits n width c
cell_found n s c made e = by (slice_get n.signals s) refl e
  where
    on : (width : ℕ) (k : Kind) → KindFits n width k → cell_in k ≡ Some c → (width : ℕ) × CellFits n width c
    on width Input f h = absurd (cc)
    on width (Reg init next) f h = absurd (cc)
    on width (Wire None) f h = absurd (cc)
    on width (Wire (Some d)) f h = let q : d ≡ c = cc in (width, subst (λ x. CellFits n width x) q f)

    by : (o : Option Signal) → slice_get n.signals s ≡ o → cell_in (kind_in o) ≡ Some c → (width : ℕ) × CellFits n width c
    by None q h = absurd (cc)
    by (Some g) q h = on g.width g.kind (made.signals s g q).kind h

pub numbers_at : (xs : List Sig) (i : ℕ) (d : Sig) → i < length xs → slice_get (numbers xs) i ≡ Some (get_or xs i d).0
numbers_at [] i d h = absurd (omega arith)
numbers_at (x ∷ xs) zero d h = refl
numbers_at (x ∷ xs) (suc i) d h = numbers_at xs i d (omega (arith, h))

pub numbers_push : (xs : List Sig) (x : Sig) → numbers (xs ++ x ∷ []) ≡ numbers xs ++ x.0 ∷ []
numbers_push [] x = refl
numbers_push (y ∷ xs) x = ap (λ l. y.0 ∷ l) (numbers_push xs x)

pub record StepsTo (n : Netlist) (ws : List ℕ) (steps : List Step) (count : ℕ) : Type 0 where
  pub long : length steps ≡ count
  pub each : (k s : ℕ) (step : Step) → slice_get ws k ≡ Some s → slice_get steps k ≡ Some step → IsStep n s step

pub steps_more : (n : Netlist) (ws : List ℕ) (steps : List Step) (i s : ℕ) (step : Step) → StepsTo n ws steps i → slice_get ws i ≡ Some s → IsStep n s step → StepsTo n ws (steps ++ step ∷ []) (i + 1)
steps_more n ws steps i s step w at is = record {
  long = (let a = length_push steps step in let b = w.long in omega (arith, a, b));
  each = λ k t x e f. elim (get_pushed steps step x k f) [
    | inl q ↦ w.each k t x e q
    | inr q ↦
        let same : Some t ≡ Some s = sym e ∙ ap (slice_get ws) (q.0 ∙ w.long) ∙ at in
        let one : t ≡ s = cc in
        subst (λ y. IsStep n t y) (sym q.1) (subst (λ y. IsStep n y step) (sym one) is)
  ];
}

with_append : (k : Kind) (i : ℕ) (is : List ℕ) → with_input k i is ≡ with_input k i [] ++ is
with_append Input i is = refl
with_append (Reg init next) i is = refl
with_append (Wire cell) i is = refl

pub inputs_more : (n : Netlist) (old new : List ℕ) (i : ℕ) → i < length n.signals → old ++ inputs_from (drop i n.signals) i ≡ inputs_of n → new ≡ old
    ++ with_input (kind_at n i) i [] → new ++ inputs_from (drop (i + 1) n.signals) (i + 1) ≡ inputs_of n
inputs_more n old new i h e f =
    let g = get_some n.signals i h in
    let kind : kind_at n i ≡ g.0.kind = ap kind_in g.1 in
    ap (λ l. l ++ inputs_from (drop (i + 1) n.signals) (i + 1)) (f ∙ ap (λ k. old ++ with_input k i []) kind)
    ∙ append_assoc old (with_input g.0.kind i []) (inputs_from (drop (i + 1) n.signals) (i + 1))
    ∙ ap (λ l. old ++ l) (sym (with_append g.0.kind i (inputs_from (drop (i + 1) n.signals) (i + 1))))
    ∙ ap (λ j. old ++ with_input g.0.kind i (inputs_from (drop (i + 1) n.signals) j)) (let z : i + 1 ≡ suc i = omega arith in z)
    ∙ ap (λ l. old ++ inputs_from l i) (sym (drop_at n.signals i g.0 g.1))
    ∙ e

pub registers_same : (n : Netlist) (regs : List Register) (i : ℕ) → AreRegisters n i regs → ¬ (IsReg (kind_at n i)) → AreRegisters n (i + 1) regs
registers_same n regs i w away = record {
  each = w.each;
  all = λ s h is. elim (lower_or_last s i h) [ inl l ↦ w.all s l is | inr q ↦ absurd (away (subst (λ y. IsReg (kind_at n y)) q is)) ];
  narrow = w.narrow;
  few = (let a = w.few in omega (arith, a));
  below = λ k q g. (let a = w.below k q g in omega (arith, a));
  once = w.once;
}

pub resets_more : (n : Netlist) (old new : List ℕ) (i x : ℕ) → i < length n.signals → old ≡ map (λ (g : Signal). kind_reset g.kind) (take i n.signals)
    → x ≡ kind_reset (kind_at n i) → new ≡ old ++ x ∷ []
    → new ≡ map (λ (g : Signal). kind_reset g.kind) (take (i + 1) n.signals)
resets_more n old new i x h e f q =
    let g = get_some n.signals i h in
    q ∙ ap (λ l. l ++ x ∷ []) e ∙ ap (λ y. map (λ (g : Signal). kind_reset g.kind) (take i n.signals) ++ y ∷ []) (f ∙ ap kind_reset (ap kind_in g.1))
    ∙ sym (ap (map (λ (g : Signal). kind_reset g.kind)) (take_next n.signals i g.0 g.1) ∙ map_push (λ (g : Signal). kind_reset g.kind) (take i n.signals) g.0)

-- ---- a simulator at reset

reset_at : (gs : List Signal) (s : ℕ) → slice_index (map (λ (g : Signal). kind_reset g.kind) gs) s ≡ kind_reset (kind_in (slice_get gs s))
reset_at [] s = refl
reset_at (g ∷ gs) zero = refl
reset_at (g ∷ gs) (suc s) = reset_at gs s

resets_long : (gs : List Signal) → length (map (λ (g : Signal). kind_reset g.kind) gs) ≡ length gs
resets_long [] = refl
resets_long (g ∷ gs) = ap suc (resets_long gs)

kind_reset_fits : (n : Netlist) (width : ℕ) (k : Kind) → KindFits n width k → kind_reset k < 2 ^ width
kind_reset_fits n width Input f = pow_pos width
kind_reset_fits n width (Reg init None) f = f
kind_reset_fits n width (Reg init (Some m)) f = f.0
kind_reset_fits n width (Wire cell) f = pow_pos width

not_reg_reset : (k : Kind) → ¬ (IsReg k) → kind_reset k ≡ 0
not_reg_reset Input h = refl
not_reg_reset (Reg init next) h = absurd (h tt)
not_reg_reset (Wire cell) h = refl

pub resets_fit : (n : Netlist) → IsNetlist n → FitWidths n (slice_index (resets n))
resets_fit n made s g e = subst (λ x. x < 2 ^ g.width) (sym (reset_at n.signals s ∙ ap kind_reset (ap kind_in e))) (kind_reset_fits n g.width g.kind (made.signals s g e).kind)

reg_or_not : (k : Kind) → IsReg k ⊎ (¬ (IsReg k))
reg_or_not Input = inr (λ h. h)
reg_or_not (Reg init next) = inl tt
reg_or_not (Wire cell) = inr (λ h. h)

same_lists : (xs ys : List ℕ) → length xs ≡ length ys → ((s : ℕ) → slice_index xs s ≡ slice_index ys s) → xs ≡ ys
same_lists [] [] e f = refl
same_lists [] (y ∷ ys) e f = absurd (omega (arith, e))
same_lists (x ∷ xs) [] e f = absurd (omega (arith, e))
same_lists (x ∷ xs) (y ∷ ys) e f = ap (λ z. z ∷ xs) (f 0) ∙ ap (λ l. y ∷ l) (same_lists xs ys (omega (arith, e)) (λ s. f (suc s)))

pub placed_resets : (n : Netlist) (regs : List Register) (numbers : List ℕ) → AreRegisters n (length n.signals) regs → AreReset n regs (length regs)
    numbers → placed (length n.signals) regs numbers ≡ resets n
placed_resets n regs numbers w a = same_lists now (resets n) (placed_long (length n.signals) regs numbers ∙ sym (resets_long n.signals)) at
  where
    now : List ℕ
    now = placed (length n.signals) regs numbers

    at : (s : ℕ) → slice_index now s ≡ slice_index (resets n) s
    at s = elim (reg_or_not (kind_at n s)) [
      | inl is ↦ elim (cases_lt s (length n.signals)) [
        | inl h ↦
            let b = w.all s h is in
            ap (slice_index now) (sym b.3) ∙ placed_at (length n.signals) regs numbers w.once w.below a.long b.0 b.1 b.2
            ∙ a.each b.0 b.1 (slice_get_within regs b.0 b.1 b.2) b.2 ∙ ap (λ x. kind_reset (kind_at n x)) b.3 ∙ sym (reset_at n.signals s)
        | inr h ↦ index_past now s (let b = placed_long (length n.signals) regs numbers in omega (arith, b, h)) ∙ sym (index_past (resets n) s (let b = resets_long n.signals in omega (arith, b, h)))
      ]
      | inr away ↦
          placed_rest (length n.signals) regs numbers s (λ k r e z. away (subst IsReg (sym (w.each k r e).1 ∙ ap (kind_at n) z) tt))
          ∙ sym (reset_at n.signals s ∙ not_reg_reset (kind_at n s) away)
    ]

pub reset_more : (n : Netlist) (regs : List Register) (numbers : List ℕ) (i x : ℕ) (r : Register) → AreReset n regs i numbers → slice_get regs i ≡
    Some r → x ≡ kind_reset (kind_at n r.signal.0) → AreReset n regs (i + 1) (numbers ++ x ∷ [])
reset_more n regs numbers i x r w at is = record {
  long = (let a = length_push numbers x in let b = w.long in omega (arith, a, b));
  each = λ k q h e. elim (lower_or_last k i h) [
    | inl l ↦ index_front numbers x k (let a = w.long in omega (arith, a, l)) ∙ w.each k q l e
    | inr z ↦
        let same : Some r ≡ Some q = sym at ∙ ap (slice_get regs) (sym z) ∙ e in
        let one : r ≡ q = cc in
        ap (slice_index (numbers ++ x ∷ [])) (z ∙ sym w.long) ∙ index_end numbers x ∙ is ∙ ap (λ (y : Register). kind_reset (kind_at n y.signal.0)) one
  ];
}

pub keeps_new : (o : Order) (steps : List Step) (places : List Sig) (regs : List Register) (starts readers marks waiting state values : List ℕ) →
    IsNetlist o.net → IsOrder o.net o.wires → AreSteps o.net o.wires steps → numbers places ≡ inputs_of o.net
    → AreRegisters o.net (length o.net.signals) regs → Lists starts readers (length o.net.signals)
    ((first_register (length o.wires) + length regs + 63) / 64) → AreReaders o.net o.wires regs starts readers
    → length marks ≡ (first_register (length o.wires) + length regs + 63) / 64 → length o.wires < 2 ^ 32 → length regs < 2 ^ 32 → Inside (length o.wires) (length regs) marks
    → ((k : ℕ) → k < length o.wires → marked marks k ≡ 1) → ((k : ℕ) → k < length regs → marked marks (first_register (length o.wires) + k) ≡ 1) →
    length waiting ≡ (length regs + 63) / 64 → ((k : ℕ) → slice_index waiting k ≡ 0)
    → state ≡ resets o.net → values ≡ resets o.net → KeepsSimulation o steps places regs starts readers marks waiting state values
keeps_new o steps places regs starts readers marks waiting state values made order all inputs registers lists read long few some inside marked_steps marked_registers wide none e f =
    subst (λ x. KeepsSimulation o steps places regs starts readers marks waiting x values) (sym e) (subst (λ x. KeepsSimulation o steps places regs starts readers marks waiting (resets o.net) x)
    (sym f) (record {
      made = made;
      order = order;
      steps = all;
      inputs = inputs;
      registers = registers;
      lists = subst (λ x. Lists starts readers (length o.net.signals) x) (sym long) lists;
      read = read;
      room = (let a = all.long in omega (arith, a, long));
      few = omega (arith, few, some, long);
      long = resets_long o.net.signals;
      values = resets_fit o.net made;
      state_long = resets_long o.net.signals;
      state = resets_fit o.net made;
      rest = λ s away. reset_at o.net.signals s ∙ not_reg_reset (kind_at o.net s) away;
      holding = record {
        stays = λ k s c at kind unmarked. absurd (let a = marked_steps k (slice_get_within o.wires k s at) in omega (arith, a, unmarked));
        kept = λ k r at unmarked. absurd (let a = marked_registers k (slice_get_within regs k r at) in omega (arith, a, unmarked));
        inside = inside;
      };
      waits = record {
        room = omega (arith, wide);
        few = omega (arith, wide, some);
        shown = λ k r at unmarked. refl;
        within = λ k h. absurd (let a = none_in waiting _ (none _) k refl in omega (arith, a, h));
      };
    }))
