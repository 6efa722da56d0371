use Rattle.std.proofs.Common.{◌≡◌, inl, inr, ◌+◌, ◌-◌, ◌*◌, ◌/◌, ◌<◌, ◌≤◌, ℕ, Some, length, get_or, slice_get, slice_index, refl, sym, ap, subst, ◌∙◌, arith, false}
use Rattle.std.proofs.lemmas.Option.{slice_get-get_or}
use Rattle.std.proofs.lemmas.Bool.{cases_eq}
use Rattle.std.proofs.lemmas.List.{length-set}
use Rattle.safl_sim.specs.declared.step.Register.{Register}
use Rattle.safl_sim.specs.Marks.{marked, holding, HasTaken}
use Rattle.safl_sim.specs.States.{placed}
use Rattle.safl_sim.specs.Writes.{KeepsOn}
use Rattle.safl_sim.proofs.MarksByOne.{taken_after}
use Rattle.safl_sim.proofs.Nearing.{joined, holding_all, no_marks}
use Rattle.safl_sim.proofs.Placing.{placed_long, placed_set, next_once}
use Rattle.safl_sim.proofs.Registers.{keeps_none, keeps_step, keeps_joined, joined_waits}
use Rattle.safl_sim.proofs.phases.keep_word.Goals.{In-Some}
use Rattle.safl_sim.proofs.phases.keep_word.Goals as goal

abbrev none : Register
none = record { signal = record { 0 = 0 }; next = record { 0 = 0 }; narrow = false }

-- the registers are being kept, and all of the word that are marked wait
keeping : (c : In-Some) → KeepsOn (c.args.first * 64) c.args.registers.now c.args.values.now c.registers.place c.requires.keeps.0 c.requires.keeps.1
    (placed (length c.args.values.now) c.args.registers.now c.registers.state) (holding c.args.marks.now c.args.word c.registers.held) c.join.new.self
keeping c =
    let q = c.requires.keeps in
    let regs = c.args.registers.now in
    let values = c.args.values.now in
    let waiting = c.args.waiting.now in
    let at = c.args.word - c.args.first in
    let now = placed (length values) regs c.args.state.now in
    c.registers.invariant.keeps q.0 q.1 (subst (λ l. KeepsOn (c.args.first * 64) regs values (c.args.word * 64) q.0 q.1 now c.args.marks.now l)
    (sym (c.join.ensures ∙ ap (joined waiting at) c.get-held.ensures))
    (keeps_joined c.args.first regs values (c.args.word * 64) c.args.word q.0 q.1 now c.args.marks.now waiting c.requires.after q.2))

-- the mark that is taken
taken : (c : In-Some) → HasTaken (holding c.args.marks.now c.args.word c.registers.held) (holding c.args.marks.now c.args.word c.in-Some.taken.left) c.args.word
    (c.args.word * 64 + c.in-Some.taken.bit)
taken c = c.in-Some.ensures.some c.args.word c.args.marks.now c.requires.word

-- the number of the mark by that of its register
number : (c : In-Some) → c.args.first * 64 + ((c.args.word - c.args.first) * 64 + c.in-Some.taken.bit) ≡ c.args.word * 64 + c.in-Some.taken.bit
number c = let h = c.requires.after in omega (arith, h)

-- it is the mark of a register
found : (c : In-Some) → (c.args.word - c.args.first) * 64 + c.in-Some.taken.bit < length c.args.registers.now
found c = let a = (keeping c).within (c.args.word * 64 + c.in-Some.taken.bit) (taken c).was in let e = number c in omega (arith, a, e)

-- a turn leads past it
past : (c : In-Some) → c.registers.place ≤ c.args.word * 64 + c.in-Some.taken.bit
past c =
    let early : c.args.first * 64 ≤ c.args.word * 64 = (let a = c.requires.after in omega (arith, a)) in
    taken_after _ _ (c.args.first * 64) c.registers.place c.args.word _ (keeping c).below early c.registers.invariant.from (taken c)

-- the others of the word that are marked wait
left : (c : In-Some) → (k : ℕ) → (c.args.first * 64 + k) / 64 ≡ c.args.word → marked (holding c.args.marks.now c.args.word c.in-Some.taken.left) (c.args.first * 64 + k) ≡ 1
    → marked c.join.new.self k ≡ 1
left c k q e =
    let i = c.args.word * 64 + c.in-Some.taken.bit in
    let m = holding c.args.marks.now c.args.word c.in-Some.taken.left in
    elim (cases_eq (c.args.first * 64 + k) i) [
      | inl z ↦ absurd (let a = (taken c).gone in let b = ap (marked m) z in omega (arith, a, b, e))
      | inr n ↦ c.registers.invariant.wait k q (sym ((taken c).others (c.args.first * 64 + k) n) ∙ e)
    ]

pub registers-init : goal.registers-init
registers-init c =
    let q = c.requires.keeps in
    record {
      from = omega arith;
      state = refl;
      wait = λ k at e.
          subst (λ l. marked l k ≡ 1) (sym (c.join.ensures ∙ ap (joined c.args.waiting.now (c.args.word - c.args.first)) c.get-held.ensures))
          (joined_waits c.args.first c.args.registers.now c.args.values.now (c.args.word * 64) c.args.word q.0 q.1
          (placed (length c.args.values.now) c.args.registers.now c.args.state.now) c.args.marks.now c.args.waiting.now c.requires.after q.2 c.requires.registers.room k at
          (ap (λ l. marked l (c.args.first * 64 + k)) (sym (holding_all c.args.marks.now c.args.word)) ∙ ap
          (λ h. marked (holding c.args.marks.now c.args.word h) (c.args.first * 64 + k)) (sym c.get-held.ensures) ∙ e));
      keeps = λ start was w.
          subst (λ h. KeepsOn (c.args.first * 64) c.args.registers.now c.args.values.now (c.args.word * 64) start was
          (placed (length c.args.values.now) c.args.registers.now c.args.state.now) (holding c.args.marks.now c.args.word h) c.join.new.self) (sym c.get-held.ensures)
          (subst (λ l. KeepsOn (c.args.first * 64) c.args.registers.now c.args.values.now (c.args.word * 64) start was
          (placed (length c.args.values.now) c.args.registers.now c.args.state.now) l c.join.new.self) (sym (holding_all c.args.marks.now c.args.word)) w);
    }

pub keep-requires-clause-known : goal.keep-requires-clause-known
keep-requires-clause-known c = found (goal.at.keep-requires-clause-known c).In-Some

pub registers-smaller : goal.registers-smaller
registers-smaller c =
    let d = (goal.at.registers-smaller c).In-Some in
    let a = past d in
    let b = (taken d).within in
    omega (arith, a, b)

pub registers-preserved : goal.registers-preserved
registers-preserved c =
    let d = (goal.at.registers-preserved c).In-Some in
    let early : c.args.first * 64 ≤ c.args.word * 64 = (let a = c.requires.after in omega (arith, a)) in
    let t = taken d in
    let k = (c.args.word - c.args.first) * 64 + c.in-Some.taken.bit in
    let e = number d in
    let r = get_or c.args.registers.now k none in
    let here : slice_get c.args.registers.now k ≡ Some r = slice_get-get_or c.args.registers.now k none (found d) in
    let long = c.registers.invariant.state ∙ c.requires.registers.states in
    let known : r.signal.0 < length (placed (length c.args.values.now) c.args.registers.now c.registers.state) =
    (let a = c.requires.registers.within k r here in let b = placed_long (length c.args.values.now) c.args.registers.now c.registers.state in omega (arith, a, b)) in
    let here_taken = subst (λ i. HasTaken (holding c.args.marks.now c.args.word c.registers.held) (holding c.args.marks.now c.args.word c.in-Some.taken.left) c.args.word i) (sym e) t in
    let waits : marked c.join.new.self k ≡ 1 = c.registers.invariant.wait k (let a = t.within in omega (arith, a, e)) here_taken.was in
    record {
      from = (let a = t.within in omega (arith, a));
      state = (let a = c.registers.invariant.state in let b = c.keep.auto.state in omega (arith, a, b));
      wait = left d;
      keeps = λ start was w.
          subst (λ i. KeepsOn (c.args.first * 64) c.args.registers.now c.args.values.now (i + 1) start was
          (placed (length c.args.values.now) c.args.registers.now c.keep.new.state) (holding c.args.marks.now c.args.word c.in-Some.taken.left) c.join.new.self) e
          (keeps_step (c.args.first * 64) c.args.registers.now c.args.values.now c.registers.place c.args.word k r start was
          (placed (length c.args.values.now) c.args.registers.now c.registers.state)
          (placed (length c.args.values.now) c.args.registers.now c.keep.new.state) (holding c.args.marks.now c.args.word c.registers.held)
          (holding c.args.marks.now c.args.word c.in-Some.taken.left) c.join.new.self (c.registers.invariant.keeps start was w) early
          c.registers.invariant.from here_taken here known (next_once c.args.registers.now c.requires.registers.once)
          (ap (placed (length c.args.values.now) c.args.registers.now) (c.keep.ensures r here) ∙ placed_set (length c.args.values.now)
          c.args.registers.now c.registers.state k r (slice_index c.args.values.now r.next.0) c.requires.registers.once long here) waits);
    }

pub returns-clause-count : goal.returns-clause-count
returns-clause-count c = record {
  marks = ap length c.put.ensures ∙ length-set c.args.marks.now c.args.word 0;
  waiting = ap length c.join.ensures ∙ length-set c.args.waiting.now (c.args.word - c.args.first) _;
}

pub returns-clause-keeps : goal.returns-clause-keeps
returns-clause-keeps c = λ start was w.
    subst (λ l. KeepsOn (c.args.first * 64) c.args.registers.now c.args.values.now ((c.args.word + 1) * 64) start was
    (placed (length c.args.values.now) c.args.registers.now c.registers.state) l c.join.new.self) (sym c.put.ensures)
    (keeps_none (c.args.first * 64) c.args.registers.now c.args.values.now c.registers.place c.args.word start was
    (placed (length c.args.values.now) c.args.registers.now c.registers.state) (holding c.args.marks.now c.args.word 0) c.join.new.self
    (subst (λ h. KeepsOn (c.args.first * 64) c.args.registers.now c.args.values.now c.registers.place start was
    (placed (length c.args.values.now) c.args.registers.now c.registers.state) (holding c.args.marks.now c.args.word h) c.join.new.self) c.in_default.ensures.none
    (c.registers.invariant.keeps start was (subst (λ l. KeepsOn (c.args.first * 64) c.args.registers.now c.args.values.now (c.args.word * 64) start
    was (placed (length c.args.values.now) c.args.registers.now c.args.state.now) c.args.marks.now l)
    (sym (c.join.ensures ∙ ap (joined c.args.waiting.now (c.args.word - c.args.first)) c.get-held.ensures))
    (keeps_joined c.args.first c.args.registers.now c.args.values.now (c.args.word * 64) c.args.word start was
    (placed (length c.args.values.now) c.args.registers.now c.args.state.now) c.args.marks.now c.args.waiting.now c.requires.after w))))
    c.registers.invariant.from (no_marks c.args.marks.now c.args.word c.requires.word))
