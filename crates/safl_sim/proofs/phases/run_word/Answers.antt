use Rattle.std.proofs.Common.{◌≡◌, ℕ, ◌+◌, ◌-◌, ◌*◌, ◌<◌, ◌≤◌, List, length, take, drop, get_or, slice_get, slice_index, Some, sym, subst, ◌∙◌, arith}
use Rattle.std.specs.Int.RustNames.{bit_or}
use Rattle.safl_order.specs.Order.{Order}
use Rattle.safl_sim.specs.declared.step.Action.TheVariants.{Choose}
use Rattle.safl_sim.specs.declared.step.Step.{Step}
use Rattle.safl_sim.specs.declared.step.Register.{Register}
use Rattle.safl_sim.specs.Marks.{holding, HasTaken}
use Rattle.safl_sim.specs.Nears.{NearOf}
use Rattle.safl_sim.specs.Readers.{Lists, HasGiven}
use Rattle.safl_sim.specs.Steps.{action_number, Runs}
use Rattle.safl_sim.proofs.Parting.{part_length, part_get}
use Rattle.safl_sim.proofs.Nearing.{holding_long, no_marks}
use Rattle.safl_sim.proofs.MarkedSteps.{Takes, takes, taken_within, taken_from, none_left}
use Rattle.safl_sim.proofs.phases.run_word.Goals.{In-Some}
use Rattle.safl_sim.proofs.phases.run_word.Goals as goal

inside : (word : ℕ) (marks marks' : List ℕ) → length marks' ≡ length marks → word < length marks → word < length marks'
inside word marks marks' e h = omega (arith, e, h)

abbrev none : Step
none = record { wire = record { 0 = 0 }; action = Choose 0 0 0; first = 0; end = 0 }

-- the step of a bit, among those of a word and all after it
abbrev step_in : List Step → ℕ → ℕ → Step
step_in steps word bit = get_or (take (length steps - word * 64) (drop (word * 64) steps)) bit none

-- the number of the step that a turn takes, and the step
abbrev number : In-Some → ℕ
number c = c.args.word * 64 + c.in-Some.taken.bit

abbrev step : In-Some → Step
step c = step_in c.deref.result.now c.args.word c.in-Some.taken.bit

-- the marks before the turn, and after it
abbrev marks : In-Some → List ℕ
marks c = holding c.steps.marks c.args.word c.steps.held

abbrev marks_left : In-Some → List ℕ
marks_left c = holding c.steps.marks c.args.word c.in-Some.taken.left

taken : (c : In-Some) → HasTaken (marks c) (marks_left c) c.args.word (number c)
taken c = c.in-Some.ensures.some c.args.word c.steps.marks (inside c.args.word c.args.marks.now c.steps.marks c.steps.invariant.long c.requires.within)

from : (c : In-Some) → c.args.word * 64 ≤ c.steps.place
from c = let a = c.steps.invariant.from in omega (arith, a)

-- the steps run: of these lists there is one of each
abbrev Running : In-Some → Order → List Register → List ℕ → List ℕ → Type 0
Running c o regs now start =
    Runs o c.args.plan.now.steps.items regs now c.args.plan.now.starts.items c.args.plan.now.readers.items start c.steps.place c.steps.values (marks c)

running : (c : In-Some) → Running c c.requires.runs.0 c.requires.runs.1 c.requires.runs.2 c.requires.runs.3
running c = let r = c.requires.runs in c.steps.invariant.runs r.0 r.1 r.2 r.3 r.4

known : (c : In-Some) → number c < length c.args.plan.now.steps.items
known c =
    let p = c.args.plan.now in
    let r = c.requires.runs in
    taken_within r.0 p.steps.items r.1 r.2 p.starts.items p.readers.items r.3 c.steps.place c.args.word (number c) c.steps.values (marks c) (marks_left c) (running c)
    c.steps.invariant.to (from c) (taken c) c.requires.steps

later : (c : In-Some) → c.steps.place ≤ number c
later c =
    let p = c.args.plan.now in
    let r = c.requires.runs in
    taken_from r.0 p.steps.items r.1 r.2 p.starts.items p.readers.items r.3 c.steps.place c.args.word (number c) c.steps.values (marks c) (marks_left c) (running c)
    c.steps.invariant.to (from c) (taken c) c.requires.steps

there : (c : In-Some) → slice_get c.args.plan.now.steps.items (number c) ≡ Some (step c)
there c = part_get c.args.plan.now.steps.items c.deref.result.now (c.args.word * 64) c.in-Some.taken.bit c.deref.ensures.value (known c) none

-- one turn takes the step
turn : (c : In-Some) (o : Order) (regs : List Register) (now start : List ℕ) → Running c o regs now start
    → Takes o c.args.plan.now.steps.items regs now c.args.plan.now.starts.items c.args.plan.now.readers.items start c.args.word (number c) (step c) c.steps.values (marks c) (marks_left c)
turn c o regs now start w =
    let p = c.args.plan.now in
    takes o p.steps.items regs now p.starts.items p.readers.items start c.steps.place c.args.word (number c) c.steps.values (marks c) (marks_left c) w
    c.steps.invariant.to (from c) (taken c) c.requires.steps (step c) (there c)

this_turn : (c : In-Some)
    → Takes c.requires.runs.0 c.args.plan.now.steps.items c.requires.runs.1 c.requires.runs.2 c.args.plan.now.starts.items c.args.plan.now.readers.items c.requires.runs.3 c.args.word
    (number c) (step c) c.steps.values (marks c) (marks_left c)
this_turn c = let r = c.requires.runs in turn c r.0 r.1 r.2 r.3 (running c)

-- the mask of its near readers
near : (c : In-Some) → NearOf c.args.plan.now.starts.items c.args.plan.now.readers.items (number c) (step c)
    (get_or (take (length c.deref-2.result.now - c.args.word * 64) (drop (c.args.word * 64) c.deref-2.result.now)) c.in-Some.taken.bit 0)
near c =
    let p = c.args.plan.now in
    let inside : number c < length p.masks.items = (let a = known c in let b = p.near.long in omega (arith, a, b)) in
    p.near.each (number c) (step c) _ (there c) (part_get p.masks.items c.deref-2.result.now (c.args.word * 64) c.in-Some.taken.bit c.deref-2.ensures.value inside 0)

pub bounds-steps-taken : goal.bounds-steps-taken
bounds-steps-taken c =
    part_length c.args.plan.now.steps.items c.deref.result.now (c.args.word * 64) c.in-Some.taken.bit c.deref.ensures.value (known (goal.at.bounds-steps-taken c).In-Some)

pub bounds-masks-taken : goal.bounds-masks-taken
bounds-masks-taken c =
    let a = known (goal.at.bounds-masks-taken c).In-Some in
    let d = c.args.plan.now.near.long in
    part_length c.args.plan.now.masks.items c.deref-2.result.now (c.args.word * 64) c.in-Some.taken.bit c.deref-2.ensures.value (omega (arith, a, d))

pub evaluate-requires-clause-lists : goal.evaluate-requires-clause-lists
evaluate-requires-clause-lists c =
    subst (λ k. Lists c.args.plan.now.starts.items c.args.plan.now.readers.items (length c.steps.values) k)
    (holding_long c.steps.marks c.args.word c.in-Some.taken.left) (this_turn (goal.at.evaluate-requires-clause-lists c).In-Some).lists

pub evaluate-requires-clause-within : goal.evaluate-requires-clause-within
evaluate-requires-clause-within c = (this_turn (goal.at.evaluate-requires-clause-within c).In-Some).wire

pub evaluate-requires-clause-ready : goal.evaluate-requires-clause-ready
evaluate-requires-clause-ready c = (this_turn (goal.at.evaluate-requires-clause-ready c).In-Some).ready

pub evaluate-requires-clause-low : goal.evaluate-requires-clause-low
evaluate-requires-clause-low c = (this_turn (goal.at.evaluate-requires-clause-low c).In-Some).low

pub evaluate-requires-clause-near : goal.evaluate-requires-clause-near
evaluate-requires-clause-near c = let d = (goal.at.evaluate-requires-clause-near c).In-Some in (number d, near d)

pub steps-smaller : goal.steps-smaller
steps-smaller c =
    let a = later (goal.at.steps-smaller c).In-Some in
    let b = c.in-Some.ensures.within in
    omega (arith, a, b)

pub steps-preserved : goal.steps-preserved
steps-preserved c =
    let p = c.args.plan.now in
    let d = (goal.at.steps-preserved c).In-Some in
    let left = c.in-Some.taken.left in
    let within = (taken d).within in
    let late = later d in
    record {
      long = c.evaluate.ensures.long ∙ c.steps.invariant.long;
      from = (let a = c.steps.invariant.from in let b = c.steps.invariant.one in omega (arith, a, b, late));
      one = c.steps.invariant.one;
      to = (let a = c.in-Some.ensures.within in omega (arith, a));
      runs = λ o regs now start w.
          let g = c.evaluate.ensures.given (number d) left (let b = c.steps.invariant.long in let e = c.requires.within in omega (arith, b, e, within)) (near d) in
          let g' = subst (λ y. HasGiven p.steps.items p.starts.items p.readers.items (step d).wire.0
          (action_number (slice_index c.steps.values) (step d).action) c.steps.values c.evaluate.new.values (holding c.steps.marks y left)
          (holding c.evaluate.new.marks y (bit_or left c.evaluate.result))) within g in
          (turn d o regs now start (c.steps.invariant.runs o regs now start w)).next c.evaluate.new.values (holding c.evaluate.new.marks c.args.word (bit_or left c.evaluate.result)) g';
    }

pub returns-clause-runs : goal.returns-clause-runs
returns-clause-runs c = λ o regs now start w.
    let p = c.args.plan.now in
    let word = c.args.word in
    let from : word * 64 ≤ c.steps.place = (let a = c.steps.invariant.from in omega (arith, a)) in
    subst (λ l. Runs o p.steps.items regs now p.starts.items p.readers.items start ((word + 1) * 64) c.steps.values l) (sym c.put.ensures)
    (none_left o p.steps.items regs now p.starts.items p.readers.items start c.steps.place word c.steps.values (holding c.steps.marks word 0)
    (subst (λ h. Runs o p.steps.items regs now p.starts.items p.readers.items start c.steps.place c.steps.values (holding c.steps.marks word h))
    c.in_default.ensures.none (c.steps.invariant.runs o regs now start w))
    from (no_marks c.steps.marks word (inside c.args.word c.args.marks.now c.steps.marks c.steps.invariant.long c.requires.within)))
