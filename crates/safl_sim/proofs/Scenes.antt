-- The values while the steps run.
use Rattle.std.proofs.Common.{◌≡◌, inl, inr, true, ℕ, suc, ◌+◌, ◌<◌, ◌≤◌, ◌^◌, List, [], ◌∷◌, map, length, set, Some, slice_get}
use Rattle.std.proofs.Common.{slice_index, refl, sym, ap, subst, ◌∙◌, arith}
use Rattle.std.proofs.lemmas.Option.{slice_get_within}
use Rattle.std.proofs.lemmas.Bool.{cases_eq}
use Rattle.std.proofs.lemmas.List.{length-set}
use Rattle.safl_word.specs.Words.{Word}
use Rattle.safl_word.proofs.Naturals.{below_power, lower_or_last}
use Rattle.safl_word.proofs.Words.{are_words}
use Rattle.safl_word.proofs.Lists.{get_some, index_get}
use Rattle.safl_net.specs.Netlist.{Netlist, Signal, Wire, Cell, width_in, width_of}
use Rattle.safl_net.specs.Valuations.{signal_word, cell_word}
use Rattle.safl_net.specs.Widths.{op_width}
use Rattle.safl_net.specs.Making.{kind_at, cell_in}
use Rattle.safl_net.specs.Rules.{IsNetlist, KindFits, CellFits}
use Rattle.safl_net.specs.Laws.{FitWidths}
use Rattle.safl_net.proofs.CellWords.{cell_width, cell_is_word, shown_widths}
use Rattle.safl_net.proofs.SignalKinds.{wire_at}
use Rattle.safl_order.specs.Order.{IsOrder, IsWire, operands_of, operands_in}
use Rattle.safl_sim.specs.declared.step.Action.{Action}
use Rattle.safl_sim.specs.declared.step.Action.TheVariants.{Choose, One, Two, Not, Add, Sub, And, Or, Xor, Eq, Shl, Shr, Bits, Const, WideChoose, WideOne, WideTwo}
use Rattle.safl_sim.specs.declared.step.Step.{Step}
use Rattle.safl_sim.specs.Steps.{action_number, is_low, Low, LowOf, IsStep, AreSteps, LowStep}
use Rattle.safl_sim.specs.Writes.{after_steps, AllReady}
use Rattle.safl_sim.proofs.Actions.{signal_word as a_word, low_number}
use Rattle.safl_sim.proofs.Updates.{operands_same}
use Rattle.safl_sim.proofs.Written.{index_here, index_other}

-- after the first steps
pub record Scene (n : Netlist) (ws : List ℕ) (count : ℕ) (start values : List ℕ) : Type 0 where
  pub long : length values ≡ length n.signals
  pub fits : FitWidths n (slice_index values)
  pub others : (s : ℕ) → ¬ (IsWire n s) → slice_index values s ≡ slice_index start s
  pub done : (k s : ℕ) (c : Cell) → k < count → slice_get ws k ≡ Some s → kind_at n s ≡ Wire (Some c) → slice_index values s ≡ (cell_word c.op (map (signal_word n values) c.operands)).bits

-- the word of a cell fits its wire
pub cell_number_fits : (n : Netlist) (values : List ℕ) (s : ℕ) (c : Cell) (g : Signal) → IsNetlist n → FitWidths n (slice_index values) → slice_get n.signals s ≡ Some g → g.kind ≡ Wire (Some c)
    → (cell_word c.op (map (signal_word n values) c.operands)).bits < 2 ^ g.width
cell_number_fits n values s c g made fits e is =
    let f : CellFits n g.width c = subst (λ k. KindFits n g.width k) is (made.signals s g e).kind in
    let q : op_width c.op (map (λ (v : Word). v.width) (map (signal_word n values) c.operands)) ≡ Some g.width = ap (op_width c.op) (shown_widths n values c.operands) ∙ f.gives in
    let w = cell_is_word c.op (map (signal_word n values) c.operands) g.width
    (are_words (signal_word n values) c.operands (λ i t o. a_word n values t (width_of n t) made fits
    (let a = f.known i 0 (slice_get_within c.operands i t o) in let b = index_get c.operands i t o in omega (arith, a, b)) refl)) f.word q in
    let wide = cell_width c.op (map (signal_word n values) c.operands) g.width q in
    subst (λ x. (cell_word c.op (map (signal_word n values) c.operands)).bits < 2 ^ x) wide w.fits

-- the operands of a wire at a place are not written at or after that place
pub apart : (n : Netlist) (ws : List ℕ) (k j s t i u : ℕ) (c : Cell) → IsOrder n ws → slice_get ws j ≡ Some s → slice_get ws k ≡ Some t → k ≤ j →
    kind_at n t ≡ Wire (Some c) → slice_get c.operands i ≡ Some u → ¬ (u ≡ s)
apart n ws k j s t i u c o at_s at_t le kind e same =
    let read : slice_get (operands_of n t) i ≡ Some u = ap (λ x. slice_get (operands_in (cell_in x)) i) kind ∙ e in
    let wire : IsWire n u = subst (λ x. IsWire n x) (sym same) (o.wires j s at_s) in
    let b = o.before k t i u at_t read wire in
    let q = o.once b.0 j s (b.2 ∙ ap Some same) at_s in
    let r = b.1 in
    absurd (omega (arith, q, r, le))

write_step : (n : Netlist) (ws : List ℕ) (j s x : ℕ) (c : Cell) (start values : List ℕ) → IsNetlist n → IsOrder n ws → Scene n ws j start values → slice_get ws j ≡ Some s → kind_at n s ≡ Wire (Some c)
    → x ≡ (cell_word c.op (map (signal_word n values) c.operands)).bits → Scene n ws (j + 1) start (set values s x)
write_step n ws j s x c start values made o w at cell is =
    let g = wire_at n s c cell in
    let inside : s < length values = (let a = slice_get_within n.signals s g.0 g.1 in let b = w.long in omega (arith, a, b)) in
    record {
      long = length-set values s x ∙ w.long;
      fits = λ t h e. elim (cases_eq t s) [
        | inl q ↦
            let g' : Some h ≡ Some g.0 = sym e ∙ ap (slice_get n.signals) q ∙ g.1 in
            let one : h ≡ g.0 = cc in
            below_power (slice_index (set values s x) t) (cell_word c.op (map (signal_word n values) c.operands)).bits g.0.width h.width
            (ap (slice_index (set values s x)) q ∙ index_here values s x inside ∙ is) (ap (λ (y : Signal). y.width) (sym one))
            (cell_number_fits n values s c g.0 made w.fits g.1 g.2)
        | inr q ↦ below_power (slice_index (set values s x) t) (slice_index values t) h.width h.width (index_other values s x t q) refl (w.fits t h e)
      ];
      others = λ t v. index_other values s x t (λ q. v (subst (λ y. IsWire n y) (sym q) (o.wires j s at))) ∙ w.others t v;
      done = λ k t d h e f. elim (cases_eq t s) [
        | inl q ↦
            let same : Wire (Some d) ≡ Wire (Some c) = sym f ∙ ap (kind_at n) q ∙ cell in
            let one : d ≡ c = cc in
            ap (slice_index (set values s x)) q ∙ index_here values s x inside ∙ is
            ∙ ap (λ l. (cell_word c.op l).bits) (sym (operands_same n values s x c.operands (λ i u m. apart n ws j j s s i u c o at at (omega arith) cell m)))
            ∙ ap (λ (y : Cell). (cell_word y.op (map (signal_word n (set values s x)) y.operands)).bits) (sym one)
        | inr q ↦
            let below : k < j = elim (lower_or_last k j h) [ inl l ↦ l | inr z ↦ absurd (q (let m : Some t ≡ Some s = sym e ∙ ap (slice_get ws) z ∙ at in cc)) ] in
            index_other values s x t q ∙ w.done k t d below e f
            ∙ ap (λ l. (cell_word d.op l).bits) (sym (operands_same n values s x d.operands (λ i u m. apart n ws k j s t i u d o at e (omega (arith, below)) f m)))
      ];
    }

scene_step : (n : Netlist) (ws : List ℕ) (j s : ℕ) (step : Step) (start values : List ℕ) → IsNetlist n → IsOrder n ws → Scene n ws j start values → slice_get ws j ≡ Some s → IsStep n s step
    → Scene n ws (j + 1) start (set values step.wire.0 (action_number (slice_index values) step.action))
scene_step n ws j s step start values made o w at p =
    subst (λ y. Scene n ws (j + 1) start (set values y (action_number (slice_index values) step.action))) (sym p.wire)
    (write_step n ws j s (action_number (slice_index values) step.action) p.cell start values made o w at p.is (p.performs.gives (slice_index values) w.fits))

-- an action for at most 64 bits works on numbers of so many
low_of : (values : List ℕ) (action : Action) → (is_low action ≡ true → Low values action) → LowOf values action
low_of values (Const a b c d) low = tt
low_of values (WideChoose c a b) low = tt
low_of values (WideOne p w a) low = tt
low_of values (WideTwo p w v a b) low = tt
low_of values (Choose c a b) low = low refl
low_of values (One p w a) low = low refl
low_of values (Two p w v a b) low = low refl
low_of values (Not w a) low = low refl
low_of values (Add w v a b) low = low refl
low_of values (Sub w v a b) low = low refl
low_of values (And w v a b) low = low refl
low_of values (Or w v a b) low = low refl
low_of values (Xor w v a b) low = low refl
low_of values (Eq w v a b) low = low refl
low_of values (Shl w v a b) low = low refl
low_of values (Shr w v a b) low = low refl
low_of values (Bits high low' w a) low = low refl

-- and the wire of its step has at most 64 bits
pub step_low : (n : Netlist) (s : ℕ) (step : Step) (values : List ℕ) → IsNetlist n → IsStep n s step → FitWidths n (slice_index values) → LowStep values step
step_low n s step values made is fits =
    let g = wire_at n s is.cell is.is in
    let w : width_of n s ≡ g.0.width = ap width_in g.1 in
    let f : CellFits n g.0.width is.cell = subst (λ k. KindFits n g.0.width k) g.2 (made.signals s g.0 g.1).kind in (
      low_of values step.action (λ low. is.performs.low values s fits (subst (λ k. CellFits n k is.cell) (sym w) f) (is.narrow low)),
      λ low. subst (λ x. slice_index values x < 2 ^ 64) (sym is.wire) (low_number n values s fits (slice_get_within n.signals s g.0 g.1) (is.narrow low).wire),
    )

-- what the rest of the steps do
pub record Ran (n : Netlist) (ws : List ℕ) (start values : List ℕ) (steps : List Step) (count : ℕ) : Type 0 where
  pub ready : AllReady steps values
  pub scene : Scene n ws count start (after_steps steps values)

run_scene : (n : Netlist) (ws : List ℕ) (j : ℕ) (steps : List Step) (start values : List ℕ) → IsNetlist n → IsOrder n ws → Scene n ws j start values
    → ((k : ℕ) (step : Step) → slice_get steps k ≡ Some step → (s : ℕ) × (slice_get ws (k + j) ≡ Some s) × IsStep n s step) → Ran n ws start values steps (j + length steps)
run_scene n ws j [] start values made o w p = record { ready = tt; scene = subst (λ k. Scene n ws k start values) (let z : j ≡ j + 0 = omega arith in z) w }
run_scene n ws j (step ∷ steps) start values made o w p =
    let a = p 0 step refl in
    let at : slice_get ws j ≡ Some a.0 = ap (slice_get ws) (let z : j ≡ 0 + j = omega arith in z) ∙ a.1 in
    let next = scene_step n ws j a.0 step start values made o w at a.2 in
    let g = wire_at n a.0 a.2.cell a.2.is in
    let rest = run_scene n ws (j + 1) steps start (set values step.wire.0 (action_number (slice_index values) step.action)) made o next
    (λ k x e. let b = p (suc k) x e in (b.0, ap (slice_get ws) (let z : k + (j + 1) ≡ suc k + j = omega arith in z) ∙ b.1, b.2)) in
    record {
      ready = (
        a.2.performs.ready values w.long w.fits,
        step_low n a.0 step values made a.2 w.fits,
        (let b = slice_get_within n.signals a.0 g.0 g.1 in let c = w.long in let d = a.2.wire in omega (arith, b, c, d)),
        rest.ready,
      );
      scene = subst (λ k. Scene n ws k start (after_steps steps (set values step.wire.0 (action_number (slice_index values) step.action))))
          (let z : j + 1 + length steps ≡ j + length (step ∷ steps) = omega arith in z) rest.scene;
    }

-- all steps: they are ready, and then each wire has its word
pub all_steps : (n : Netlist) (ws : List ℕ) (steps : List Step) (values : List ℕ) → IsNetlist n → IsOrder n ws → AreSteps n ws steps → length values ≡
    length n.signals → FitWidths n (slice_index values)
    → Ran n ws values values steps (0 + length steps)
all_steps n ws steps values made o all long fits =
    run_scene n ws 0 steps values values made o
    (record { long = long; fits = fits; others = λ s v. refl; done = λ k s c h. absurd (omega (arith, h)) })
    (λ k step e.
    let g = get_some ws k (let a = slice_get_within steps k step e in let b = all.long in omega (arith, a, b)) in
    (g.0, ap (slice_get ws) (let z : k + 0 ≡ k = omega arith in z) ∙ g.1, all.each k g.0 step g.1 e))
