-- A cycle of a simulator.
use Rattle.std.proofs.Common.{◌≡◌, ℕ, ◌+◌, ◌*◌, ◌<◌, ◌≤◌, ◌^◌, List, [], ◌∷◌, map, length, Option, Some, None, slice_get, slice_index, refl, sym, ap, subst, ◌∙◌, arith}
use Rattle.std.proofs.lemmas.Option.{slice_get_within}
use Rattle.std.proofs.lemmas.List.{length-map}
use Rattle.safl_word.specs.Words.{Word}
use Rattle.safl_word.proofs.Lists.{get_map, get_mapped, get_some}
use Rattle.safl_word.proofs.Naturals.{below_power}
use Rattle.safl_net.specs.declared.cell.Sig.{Sig}
use Rattle.safl_net.specs.declared.cell.SigKind.TheVariants as SigKind
use Rattle.safl_net.specs.Netlist.{Netlist, Signal, Kind, Input, Reg, Wire, IsSet, width_in, width_of}
use Rattle.safl_net.specs.Valuations.{Valuation, Fits, Holds, next_state, next_number, kind_next}
use Rattle.safl_net.specs.Making.{kind_at, kind_in, sort_of}
use Rattle.safl_net.specs.Rules.{IsNetlist, KindFits}
use Rattle.safl_net.specs.Laws.{FitWidths}
use Rattle.safl_net.proofs.OneValuation.{one_valuation}
use Rattle.safl_order.specs.Order.{Order, IsWire}
use Rattle.safl_order.proofs.Ends.{order_acyclic}
use Rattle.safl_sim.specs.declared.step.Register.{Register}
use Rattle.safl_sim.specs.Places.{inputs_of, AreInputs, HasWords}
use Rattle.safl_sim.specs.Simulation.{Simulation, Ticks}
use Rattle.safl_sim.specs.Marks.{marked, first_register}
use Rattle.safl_sim.specs.Readers.{Lists, Kept, Shown, RegistersAway}
use Rattle.safl_sim.specs.States.{AreAt, AreLow, HaveLowNexts}
use Rattle.safl_sim.specs.Steps.{IsReg, AreRegisters, Waits, KeepsSimulation, Runs, Goes}
use Rattle.safl_sim.specs.declared.plan.Plan.{Plan}
use Rattle.safl_sim.specs.Cycles.{state_of, KeepsStates, Cycles}
use Rattle.safl_sim.specs.Writes.{HasPut, HasShown, HasKept, KeepsOn}
use Rattle.safl_sim.proofs.Actions.{low_number}
use Rattle.safl_sim.proofs.Registers.{all_kept, was_unmarked}
use Rattle.safl_sim.proofs.InputsInOrder.{inputs_are, inputs_long, maps_agree}
use Rattle.safl_sim.proofs.Placing.{all_placed}
use Rattle.safl_sim.proofs.Updates.{lists_same}

kind_is : (n : Netlist) (s : ℕ) (g : Signal) → slice_get n.signals s ≡ Some g → kind_at n s ≡ g.kind
kind_is n s g e = ap kind_in e

input_width : (n : Netlist) (places : List Sig) (given : List Word) (k : ℕ) (s : ℕ) (w : Word) → AreInputs n given → slice_get (inputs_of n) k ≡ Some
    s → slice_get given k ≡ Some w → w.width ≡ width_of n s
input_width n places given k s w h e f =
    let a = sym (get_map (λ (x : Word). x.width) given k w f) ∙ ap (λ l. slice_get l k) h ∙ get_map (width_of n) (inputs_of n) k s e in
    cc

-- a register is no input and no wire
reg_not_wire : (k : Kind) → IsReg k → ¬ (sort_of k ≡ SigKind.Wire)
reg_not_wire Input h e = absurd h
reg_not_wire (Reg init next) h e = absurd (cc)
reg_not_wire (Wire cell) h e = absurd h

input_not_wire : (k : Kind) → k ≡ Input → ¬ (sort_of k ≡ SigKind.Wire)
input_not_wire k e f = absurd (let q = sym f ∙ ap sort_of e in cc)

input_not_reg : (k : Kind) → k ≡ Input → ¬ (IsReg k)
input_not_reg k e h = absurd (subst IsReg e h)

next_at : (n : Netlist) (r : Register) (init : ℕ) (k : ℕ) → kind_at n r.signal.0 ≡ Reg init (Some r.next.0) → (g : Signal) ×
    (slice_get n.signals r.signal.0 ≡ Some g) × (g.kind ≡ Reg init (Some r.next.0))
next_at n r init k e = by (slice_get n.signals r.signal.0) refl e
  where
    by : (o : Option Signal) → slice_get n.signals r.signal.0 ≡ o → kind_in o ≡ Reg init (Some r.next.0) → (g : Signal) ×
        (slice_get n.signals r.signal.0 ≡ Some g) × (g.kind ≡ Reg init (Some r.next.0))
    by None q h = absurd (cc)
    by (Some g) q h = (g, q, h)

pub next_in : (n : Netlist) (regs : List Register) (count : ℕ) → IsNetlist n → AreRegisters n count regs → (i : ℕ) (r : Register) → slice_get regs i ≡ Some r → r.next.0 < length n.signals
next_in n regs count made w i r e =
    let a = w.each i r e in
    let b = next_at n r a.0 i a.1 in
    (subst (λ x. KindFits n b.0.width x) b.2 (made.signals r.signal.0 b.0 b.1).kind).1

pub registers_known : (n : Netlist) (regs : List Register) (count : ℕ) → AreRegisters n count regs → (i : ℕ) (r : Register) → slice_get regs i ≡ Some r → r.signal.0 < length n.signals
registers_known n regs count w i r e = let a = w.each i r e in let b = next_at n r a.0 i a.1 in slice_get_within n.signals r.signal.0 b.0 b.1

-- the words are put to the inputs
module _ (o : Order) (p : Plan) (marks waiting numbers v0 : List ℕ) (kept : KeepsStates o p marks waiting numbers v0) (given : List Word) (are : AreInputs o.net given) where
  pub put_within : (i : ℕ) (s : Sig) → slice_get p.inputs.items i ≡ Some s → s.0 < length v0
  put_within i s e = let a = ((inputs_are o.net p.inputs.items kept.keeps.inputs).at i s e).0 in let b = kept.keeps.long in omega (arith, a, b)

  pub put_once : (i j : ℕ) (s t : Sig) → slice_get p.inputs.items i ≡ Some s → slice_get p.inputs.items j ≡ Some t → s.0 ≡ t.0 → i ≡ j
  put_once = (inputs_are o.net p.inputs.items kept.keeps.inputs).once

  pub put_long : length p.inputs.items ≡ length given
  put_long = inputs_long o.net p.inputs.items given kept.keeps.inputs are

  -- inputs are no wires
  pub inputs_away : (i : ℕ) (s : Sig) → slice_get p.inputs.items i ≡ Some s → (j : ℕ) → ¬ (slice_get o.wires j ≡ Some s.0)
  inputs_away i s e j f = input_not_wire (kind_at o.net s.0) ((inputs_are o.net p.inputs.items kept.keeps.inputs).at i s e).1 (kept.keeps.order.wires j s.0 f)

  -- the words of the inputs fit
  pub inputs_fit : (v1 : List ℕ) → HasPut p.inputs.items given (length p.inputs.items) v0 v1 → (i : ℕ) (s : Sig) (w : Word) (g : Signal) → slice_get
      p.inputs.items i ≡ Some s → slice_get given i ≡ Some w → slice_get o.net.signals s.0 ≡ Some g → w.bits < 2 ^ g.width
  inputs_fit v1 put i s w g e f at =
      let word = put.words i w (slice_get_within p.inputs.items i s e) f in
      let here : slice_get (inputs_of o.net) i ≡ Some s.0 = ap (λ l. slice_get l i) (sym kept.keeps.inputs) ∙ get_map (λ (x : Sig). x.0) p.inputs.items i s e in
      below_power w.bits w.bits w.width g.width refl (input_width o.net p.inputs.items given i s.0 w are here f ∙ ap width_in at) word.fits

  pub put_lists : Lists p.starts.items p.readers.items (length v0) (length marks)
  put_lists = lists_same p.starts.items p.readers.items _ _ _ _ kept.keeps.long refl kept.keeps.lists

  -- what is kept is so once the inputs have the words
  module _ (v1 m1 : List ℕ) (put : HasPut p.inputs.items given (length p.inputs.items) v0 v1) (l1 : length m1 ≡ length marks)
      (goes : Goes o.net o.wires p.steps.items p.registers.items (state_of o p numbers) p.starts.items p.readers.items v0 v1 marks m1) where
    waits_put : Waits p.registers.items (state_of o p numbers) v1 waiting
    waits_put = record {
      room = kept.keeps.waits.room;
      few = kept.keeps.waits.few;
      shown = λ i r e none. put.others r.signal.0 (λ j t f z. input_not_reg (kind_at o.net t.0)
          ((inputs_are o.net p.inputs.items kept.keeps.inputs).at j t f).1
          (subst IsReg (sym (kept.keeps.registers.each i r e).1 ∙ ap (kind_at o.net) (sym z)) tt)) ∙ kept.keeps.waits.shown i r e none;
      within = kept.keeps.waits.within;
    }

    pub keeps_put : KeepsStates o p m1 waiting numbers v1
    keeps_put =
        let gone = goes kept.keeps.read kept.keeps.steps kept.keeps.state kept.keeps.values kept.keeps.holding in
        record {
          long = kept.long;
          keeps = record {
            made = kept.keeps.made;
            order = kept.keeps.order;
            steps = kept.keeps.steps;
            inputs = kept.keeps.inputs;
            registers = kept.keeps.registers;
            lists = lists_same p.starts.items p.readers.items _ _ _ _ refl l1 kept.keeps.lists;
            read = kept.keeps.read;
            room = (let a = kept.keeps.room in omega (arith, a, l1));
            few = (let a = kept.keeps.few in omega (arith, a, l1));
            long = put.long ∙ kept.keeps.long;
            values = gone.0;
            state_long = kept.keeps.state_long;
            state = kept.keeps.state;
            rest = kept.keeps.rest;
            holding = gone.1;
            waits = waits_put;
          };
        }

    pub has_put : HasWords o.net v1 given
    has_put = maps_agree (slice_index v1) (λ (w : Word). w.bits) (inputs_of o.net) given
        (let a = inputs_long o.net p.inputs.items given kept.keeps.inputs are in let b = ap length kept.keeps.inputs in let c = length-map p.inputs.items (λ (x : Sig). x.0) in omega (arith, a, b, c))
        (λ i s w e f.
        let t = get_mapped (λ (x : Sig). x.0) p.inputs.items i s (ap (λ l. slice_get l i) kept.keeps.inputs ∙ e) in
        ap (slice_index v1) (sym t.2) ∙ put.put i t.0 w (slice_get_within p.inputs.items i t.0 t.1) t.1 f)

-- the rest of the cycle
module _ (o : Order) (p : Plan) (marks waiting numbers v1 : List ℕ) (kept : KeepsStates o p marks waiting numbers v1) where
  pub reg_within : (i : ℕ) (r : Register) → slice_get p.registers.items i ≡ Some r → r.signal.0 < length o.net.signals
  reg_within i r e = registers_known o.net p.registers.items (length o.net.signals) kept.keeps.registers i r e

  pub next_within : (i : ℕ) (r : Register) → slice_get p.registers.items i ≡ Some r → r.next.0 < length o.net.signals
  next_within i r e = next_in o.net p.registers.items (length o.net.signals) kept.keeps.made kept.keeps.registers i r e

  pub numbers_at : AreAt p.registers.items numbers (state_of o p numbers)
  numbers_at = all_placed (length o.net.signals) p.registers.items numbers kept.keeps.registers.once kept.keeps.registers.below kept.long

  -- the narrow registers have at most 64 bits
  pub shown_low : AreLow p.registers.items v1 numbers
  shown_low i r e narrow =
      let known = reg_within i r e in
      let few = kept.keeps.registers.narrow i r e narrow in (
        low_number o.net v1 r.signal.0 kept.keeps.values known few,
        subst (λ x. x < 2 ^ 64) (numbers_at.each i r e) (low_number o.net (state_of o p numbers) r.signal.0 kept.keeps.state known few),
      )

  -- and so have their next signals
  pub nexts_low : (v3 : List ℕ) → FitWidths o.net (slice_index v3) → HaveLowNexts p.registers.items v3
  nexts_low v3 fits i r e narrow =
      let a = kept.keeps.registers.each i r e in
      let b = next_at o.net r a.0 i a.1 in
      let next : width_of o.net r.next.0 ≡ b.0.width = (subst (λ x. KindFits o.net b.0.width x) b.2 (kept.keeps.made.signals r.signal.0 b.0 b.1).kind).2 in
      let few = kept.keeps.registers.narrow i r e narrow in
      low_number o.net v3 r.next.0 fits (next_within i r e) (let w : width_of o.net r.signal.0 ≡ b.0.width = ap width_in b.1 in omega (arith, w, next, few))

  shown_at : (v2 : List ℕ) → HasShown p.registers.items (state_of o p numbers) (length p.registers.items) v1 v2 → (s : ℕ) (g : Signal) → slice_get
      o.net.signals s ≡ Some g → IsReg g.kind → slice_index v2 s ≡ slice_index (state_of o p numbers) s
  shown_at v2 q s g e h =
      let a = kept.keeps.registers.all s (slice_get_within o.net.signals s g e) (subst IsReg (sym (kind_is o.net s g e)) h) in
      ap (slice_index v2) (sym a.3) ∙ q.shown a.0 a.1 (slice_get_within p.registers.items a.0 a.1 a.2) a.2 ∙ ap (slice_index (state_of o p numbers)) a.3

  not_shown : (v2 : List ℕ) → HasShown p.registers.items (state_of o p numbers) (length p.registers.items) v1 v2 → (s : ℕ) → ¬ (IsReg (kind_at o.net s)) → slice_index v2 s ≡ slice_index v1 s
  not_shown v2 q s away = q.others s (λ i r f e. away (subst IsReg (sym (kept.keeps.registers.each i r f).1 ∙ ap (kind_at o.net) e) tt))

  -- registers are no wires
  pub registers_away : (i : ℕ) (r : Register) → slice_get p.registers.items i ≡ Some r → (j : ℕ) → ¬ (slice_get o.wires j ≡ Some r.signal.0)
  registers_away i r e j f = reg_not_wire (kind_at o.net r.signal.0) (subst IsReg (sym (kept.keeps.registers.each i r e).1) tt) (kept.keeps.order.wires j r.signal.0 f)

  -- the p.steps.items begin once the registers are shown
  pub begins : (v2 m2 : List ℕ) → (AreAt p.registers.items numbers (state_of o p numbers) → Waits p.registers.items (state_of o p numbers) v1 waiting
      → HasShown p.registers.items (state_of o p numbers) (length p.registers.items) v1 v2) → length m2 ≡ length marks
      → (RegistersAway p.registers.items o.wires → AreAt p.registers.items numbers (state_of o p numbers) → Goes o.net o.wires p.steps.items
      p.registers.items (state_of o p numbers) p.starts.items p.readers.items v1 v2 marks m2) → Runs o p.steps.items p.registers.items
      (state_of o p numbers) p.starts.items p.readers.items v2 0 v2 m2
  begins v2 m2 q l2 goes =
      let shown = goes registers_away numbers_at kept.keeps.read kept.keeps.steps kept.keeps.state kept.keeps.values kept.keeps.holding in
      record {
        made = kept.keeps.made;
        order = kept.keeps.order;
        steps = kept.keeps.steps;
        lists = lists_same p.starts.items p.readers.items _ _ _ _ refl l2 kept.keeps.lists;
        read = kept.keeps.read;
        room = (let a = kept.keeps.room in omega (arith, a, l2));
        long = (q numbers_at kept.keeps.waits).long ∙ kept.keeps.long;
        fits = shown.0;
        others = λ s away. refl;
        below = λ j h. absurd (omega (arith, h));
        holding = shown.1;
      }

  -- none is kept yet
  pub keeps_start : (v2 v3 m3 w2 : List ℕ) (first : ℕ) → first ≡ first_register (length p.steps.items) → Runs o p.steps.items p.registers.items
      (state_of o p numbers) p.starts.items p.readers.items v2 (first_register (length p.steps.items)) v3 m3 → ((j : ℕ) → marked w2 j ≡ 0)
      → KeepsOn first p.registers.items v3 first (state_of o p numbers) m3 (state_of o p numbers) m3 w2
  keeps_start v2 v3 m3 w2 first e scene none =
      let many = kept.keeps.steps.long in
      let same : first ≡ first_register (length o.wires) = omega (arith, e, many) in
      record {
        long = refl;
        below = λ j f h. absurd (omega (arith, f, h));
        low = λ j h. refl;
        within = λ j h. (let a = scene.holding.inside.register j h in omega (arith, a, same));
        kept = subst (λ x. Kept x p.registers.items (state_of o p numbers) v3 m3) (sym same) scene.holding.kept;
        others = λ t h. refl;
        waits = λ j h z. h;
        waiters = λ j h. absurd (let a = none j in omega (arith, a, h));
      }

  -- what holds once the steps have run and the registers are kept
  module _ (v2 v3 m3 m4 w4 next : List ℕ) (first : ℕ) (shown : AreAt p.registers.items numbers (state_of o p numbers) → Waits p.registers.items
      (state_of o p numbers) v1 waiting → HasShown p.registers.items (state_of o p numbers) (length p.registers.items) v1 v2)
      (scene : Runs o p.steps.items p.registers.items (state_of o p numbers) p.starts.items p.readers.items v2 (first_register (length p.steps.items)) v3 m3)
      (e1 : first ≡ first_register (length p.steps.items)) (l3 : length m3 ≡ length marks) (l4 : length m4 ≡ length m3) (wide : length w4 ≡ length waiting) (l5 : length next ≡ length numbers)
      (ends : KeepsOn first p.registers.items v3 (length m4 * 64) (state_of o p numbers) m3 (state_of o p next) m4 w4) where
    q : HasShown p.registers.items (state_of o p numbers) (length p.registers.items) v1 v2
    q = shown numbers_at kept.keeps.waits

    room : first + length p.registers.items ≤ length m4 * 64
    room = let a = scene.room in omega (arith, a, e1, l4)

    r : HasKept p.registers.items v3 (length p.registers.items) (state_of o p numbers) (state_of o p next)
    r = all_kept first p.registers.items v3 (length m4 * 64) (state_of o p numbers) m3 (state_of o p next) m4 w4 ends room

    same_first : first ≡ first_register (length o.wires)
    same_first = let many = kept.keeps.steps.long in omega (arith, e1, many)

    not_wire_same : (s : ℕ) → ¬ (IsWire o.net s) → slice_index v3 s ≡ slice_index v2 s
    not_wire_same s away = scene.others s away

    holds : (s : ℕ) (g : Signal) (j : Kind) → slice_get o.net.signals s ≡ Some g → g.kind ≡ j → Holds o.net v3 (slice_index (state_of o p numbers) s) (slice_index v3 s) j
    holds s g Input e f = tt
    holds s g (Reg init next) e f =
        not_wire_same s (λ h. reg_not_wire (Reg init next) tt (ap sort_of (sym (kind_is o.net s g e ∙ f)) ∙ h))
        ∙ shown_at v2 q s g e (subst IsReg (sym f) tt)
    holds s g (Wire None) e f = tt
    holds s g (Wire (Some c)) e f =
        let kind : kind_at o.net s ≡ Wire (Some c) = kind_is o.net s g e ∙ f in
        let a = kept.keeps.order.all s (ap sort_of kind) in
        scene.holding.stays a.0 s c a.1 kind (scene.below a.0 (let b = slice_get_within o.wires a.0 s a.1 in let d = kept.keeps.steps.long in omega (arith, b, d)))

    fits : Fits o.net (slice_index (state_of o p numbers)) v3
    fits = record { full = scene.long; each = λ s g e. (scene.fits s g e, holds s g g.kind e refl) }

    input_stays : (s : ℕ) → kind_at o.net s ≡ Input → slice_index v3 s ≡ slice_index v1 s
    input_stays s e = not_wire_same s (input_not_wire (kind_at o.net s) e) ∙ not_shown v2 q s (input_not_reg (kind_at o.net s) e)

    inputs_stay : map (slice_index v3) (inputs_of o.net) ≡ map (slice_index v1) (inputs_of o.net)
    inputs_stay = maps_agree (slice_index v3) (slice_index v1) (inputs_of o.net) (inputs_of o.net) refl (λ i s t e f.
        let a = get_mapped (λ (x : Sig). x.0) p.inputs.items i s (ap (λ l. slice_get l i) kept.keeps.inputs ∙ e) in
        let kind : kind_at o.net s ≡ Input = ap (kind_at o.net) (sym a.2) ∙ ((inputs_are o.net p.inputs.items kept.keeps.inputs).at i a.0 a.1).1 in
        let same : s ≡ t = cc in
        input_stays s kind ∙ ap (slice_index v1) same)

    same_inputs : (v : Valuation) → map (slice_index v) (inputs_of o.net) ≡ map (slice_index v3) (inputs_of o.net) → (s : ℕ) (g : Signal) → slice_get
        o.net.signals s ≡ Some g → g.kind ≡ Input → slice_index v s ≡ slice_index v3 s
    same_inputs v h s g e f =
        let a = (inputs_are o.net p.inputs.items kept.keeps.inputs).all s g e f in
        let b = sym (get_map (slice_index v) (inputs_of o.net) a.0 s a.4) ∙ ap (λ l. slice_get l a.0) h ∙ get_map (slice_index v3) (inputs_of o.net) a.0 s a.4 in
        cc

    not_kept : (s : ℕ) → ¬ (IsReg (kind_at o.net s)) → slice_index (state_of o p next) s ≡ 0
    not_kept s away = r.others s (λ i t f z. away (subst IsReg (sym (kept.keeps.registers.each i t f).1 ∙ ap (kind_at o.net) z) tt)) ∙ kept.keeps.rest s away

    kept_at : (s : ℕ) (g : Signal) (init m : ℕ) → slice_get o.net.signals s ≡ Some g → g.kind ≡ Reg init (Some m) → slice_index (state_of o p next) s ≡ slice_index v3 m
    kept_at s g init m e f =
        let kind : kind_at o.net s ≡ Reg init (Some m) = kind_is o.net s g e ∙ f in
        let a = kept.keeps.registers.all s (slice_get_within o.net.signals s g e) (subst IsReg (sym kind) tt) in
        let b = kept.keeps.registers.each a.0 a.1 a.2 in
        let c : Reg b.0 (Some a.1.next.0) ≡ Reg init (Some m) = sym b.1 ∙ ap (kind_at o.net) a.3 ∙ kind in
        let d : a.1.next.0 ≡ m = cc in
        ap (slice_index (state_of o p next)) (sym a.3) ∙ r.kept a.0 a.1 (slice_get_within p.registers.items a.0 a.1 a.2) a.2 ∙ ap (slice_index v3) d

    state_next : (s : ℕ) → slice_index (state_of o p next) s ≡ next_state o.net v3 s
    state_next s = by (slice_get o.net.signals s) refl
      where
        on : (g : Signal) (j : Kind) → slice_get o.net.signals s ≡ Some g → g.kind ≡ j → slice_index (state_of o p next) s ≡ kind_next v3 j
        on g Input e f = not_kept s (λ h. absurd (subst IsReg (kind_is o.net s g e ∙ f) h))
        on g (Reg init None) e f = absurd (subst IsSet f (kept.keeps.order.set s g e))
        on g (Reg init (Some m)) e f = kept_at s g init m e f
        on g (Wire cell) e f = not_kept s (λ h. absurd (subst IsReg (kind_is o.net s g e ∙ f) h))

        by : (x : Option Signal) → slice_get o.net.signals s ≡ x → slice_index (state_of o p next) s ≡ next_number v3 x
        by None e = not_kept s (λ h. absurd (subst IsReg (ap kind_in e) h))
        by (Some g) e = on g g.kind e refl

    state_fits : FitWidths o.net (slice_index (state_of o p next))
    state_fits s g e = by g.kind refl (kept.keeps.made.signals s g e).kind
      where
        by : (j : Kind) → g.kind ≡ j → KindFits o.net g.width j → slice_index (state_of o p next) s < 2 ^ g.width
        by Input f h = below_power (slice_index (state_of o p next) s) (slice_index (state_of o p numbers) s) g.width g.width
            (r.others s (λ i t x z. absurd (subst IsReg (sym (kept.keeps.registers.each i t x).1 ∙ ap (kind_at o.net) z ∙ kind_is o.net s g e ∙ f)
            tt))) refl (kept.keeps.state s g e)
        by (Reg init None) f h = absurd (subst IsSet f (kept.keeps.order.set s g e))
        by (Reg init (Some m)) f h =
            let there = get_some o.net.signals m h.1 in
            below_power (slice_index (state_of o p next) s) (slice_index v3 m) there.0.width g.width (kept_at s g init m e f) (ap width_in (sym there.1) ∙ h.2) (scene.fits m there.0 there.1)
        by (Wire cell) f h = below_power (slice_index (state_of o p next) s) (slice_index (state_of o p numbers) s) g.width g.width
            (r.others s (λ i t x z. absurd (subst IsReg (sym (kept.keeps.registers.each i t x).1 ∙ ap (kind_at o.net) z ∙ kind_is o.net s g e ∙ f)
            tt))) refl (kept.keeps.state s g e)

    -- a register that does not wait shows its state
    shows_state : Shown p.registers.items (state_of o p next) v3 w4
    shows_state i t e none =
        let kind = (kept.keeps.registers.each i t e).1 in
        not_wire_same t.signal.0 (reg_not_wire (kind_at o.net t.signal.0) (subst IsReg (sym kind) tt))
        ∙ q.shown i t (slice_get_within p.registers.items i t e) e
        ∙ subst (λ x. Kept x p.registers.items (state_of o p numbers) v3 m3) (sym same_first) scene.holding.kept i t e
        (was_unmarked first p.registers.items v3 (length m4 * 64) (state_of o p numbers) m3 (state_of o p next) m4 w4 ends room i none)
        ∙ sym (r.kept i t (slice_get_within p.registers.items i t e) e)

    keeps_after : KeepsSimulation o p.steps.items p.inputs.items p.registers.items p.starts.items p.readers.items m4 w4 (state_of o p next) v3
    keeps_after = record {
      made = kept.keeps.made;
      order = kept.keeps.order;
      steps = kept.keeps.steps;
      inputs = kept.keeps.inputs;
      registers = kept.keeps.registers;
      lists = lists_same p.starts.items p.readers.items _ _ _ _ refl l4 scene.lists;
      read = kept.keeps.read;
      room = (let a = scene.room in omega (arith, a, l4));
      few = (let a = kept.keeps.few in omega (arith, a, l3, l4));
      long = scene.long;
      values = scene.fits;
      state_long = r.long ∙ kept.keeps.state_long;
      state = state_fits;
      rest = not_kept;
      holding = record {
        stays = λ j s c at kind none. scene.holding.stays j s c at kind (sym (ends.low j (let a = slice_get_within o.wires j s at in let b = kept.keeps.steps.long in omega (arith, a, b, e1))) ∙ none);
        kept = subst (λ x. Kept x p.registers.items (state_of o p next) v3 m4) same_first ends.kept;
        inside = record {
          step = λ j e l. scene.holding.inside.step j (sym (ends.low j (omega (arith, l, same_first))) ∙ e) l;
          register = λ j e. (let a = ends.within j e in omega (arith, a, same_first));
        };
      };
      waits = record {
        room = (let a = kept.keeps.waits.room in omega (arith, a, wide));
        few = (let a = kept.keeps.waits.few in omega (arith, a, wide));
        shown = shows_state;
        within = ends.waiters;
      };
    }

    pub cycles : (given : List Word) → HasWords o.net v1 given → Cycles o p given numbers v1 m4 w4 next v3
    cycles given has = record {
      keeps = record { long = l5 ∙ kept.long; keeps = keeps_after };
      ticks = record {
        net = refl;
        fits = fits;
        inputs = inputs_stay ∙ has;
        alone = λ v f h. one_valuation o.net kept.keeps.order.set (order_acyclic o.net o.wires kept.keeps.order) (slice_index (state_of o p numbers))
            v v3 f fits (same_inputs v (h ∙ sym (inputs_stay ∙ has)));
        state = state_next;
      };
    }

-- the same of what is read through references
pub states_same : (o : Order) (p : Plan) (marks marks' waiting waiting' numbers numbers' v v' : List ℕ) → marks' ≡ marks → waiting' ≡ waiting → numbers' ≡ numbers → v' ≡ v
    → KeepsStates o p marks waiting numbers v → KeepsStates o p marks' waiting' numbers' v'
states_same o p marks marks' waiting waiting' numbers numbers' v v' m w a b k =
    subst (λ x. KeepsStates o p x waiting' numbers' v') (sym m)
    (subst (λ x. KeepsStates o p marks x numbers' v') (sym w)
    (subst (λ x. KeepsStates o p marks waiting x v') (sym a)
    (subst (λ x. KeepsStates o p marks waiting numbers x) (sym b) k)))

pub cycle_through : (o : Order) (p : Plan) (marks marks' waiting waiting' : List ℕ) (given : List Word) (now now' v v' mark wait next after : List ℕ)
    → marks' ≡ marks → waiting' ≡ waiting → now' ≡ now → v' ≡ v
    → (KeepsStates o p marks' waiting' now' v' → Cycles o p given now' v' mark wait next after) → KeepsStates o p marks waiting now v → Cycles o p given now v mark wait next after
cycle_through o p marks marks' waiting waiting' given now now' v v' mark wait next after m w d e f k =
    subst (λ x. Cycles o p given x v mark wait next after) d
    (subst (λ x. Cycles o p given now' x mark wait next after) e
    (f (states_same o p marks marks' waiting waiting' now now' v v' m w d e k)))

-- a cycle is one of any values before it
pub cycle_from : (o : Order) (p : Plan) (given : List Word) (now v v' mark wait next after : List ℕ) → Cycles o p given now v mark wait next after → Cycles o p given now v' mark wait next after
cycle_from o p given now v v' mark wait next after c = record {
  keeps = c.keeps;
  ticks = record { net = c.ticks.net; fits = c.ticks.fits; inputs = c.ticks.inputs; alone = c.ticks.alone; state = c.ticks.state };
}

-- some words have the numbers that the inputs have
abbrev word_of_number : ℕ → Word
word_of_number x = record { width = x; bits = x }

same_numbers : (xs : List ℕ) → xs ≡ map (λ (w : Word). w.bits) (map word_of_number xs)
same_numbers [] = refl
same_numbers (x ∷ xs) = ap (λ l. x ∷ l) (same_numbers xs)

pub some_words : (n : Netlist) (v : Valuation) → (words : List Word) × HasWords n v words
some_words n v = (map word_of_number (map (slice_index v) (inputs_of n)), same_numbers (map (slice_index v) (inputs_of n)))

pub ticks_same : (n : Netlist) (old : Simulation) (now v next next' after after' : List ℕ) (given : List Word) → record { net = n; state = now; values = v } ≡ old → next' ≡ next → after' ≡ after
    → Ticks (record { net = n; state = now; values = v }) (record { net = n; state = next; values = after }) given → Ticks old (record { net = n; state = next'; values = after' }) given
ticks_same n old now v next next' after after' given a b c t =
    subst (λ x. Ticks x (record { net = n; state = next'; values = after' }) given) a
    (subst (λ (x : List ℕ). Ticks (record { net = n; state = now; values = v }) (record { net = n; state = x; values = after' }) given) (sym b)
    (subst (λ (x : List ℕ). Ticks (record { net = n; state = now; values = v }) (record { net = n; state = next; values = x }) given) (sym c) t))
