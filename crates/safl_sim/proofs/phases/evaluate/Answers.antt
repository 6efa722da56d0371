use Rattle.std.proofs.Common.{◌≡◌, ℕ, ◌+◌, ◌/◌, ◌<◌, List, length, set, slice_index, sym, ap, subst, ◌∙◌, arith}
use Rattle.safl_word.specs.Words.{pick}
use Rattle.std.specs.Int.RustNames.{bit_or}
use Rattle.safl_word.proofs.Words.{pick_ap}
use Rattle.safl_sim.specs.declared.step.Action.{Action}
use Rattle.safl_sim.specs.declared.step.Action.TheVariants.{Choose}
use Rattle.safl_sim.specs.declared.step.Near.{Near}
use Rattle.safl_sim.specs.declared.step.Step.{Step}
use Rattle.safl_sim.specs.Marks.{holding}
use Rattle.safl_sim.specs.Nears.{NearOf}
use Rattle.safl_sim.specs.Readers.{IsPart, HasMarked, HasGiven}
use Rattle.safl_sim.specs.Steps.{action_number}
use Rattle.safl_sim.proofs.Nearing.{near_same, near_new}
use Rattle.safl_sim.proofs.phases.evaluate.Goals as goal

-- a step whose number is not new
kept : {steps : List Step} {starts readers : List ℕ} {x : ℕ} {values values' : List ℕ} (step : Step) (i held : ℕ) (marks : List ℕ) → values' ≡ set values step.wire.0 x
    → slice_index values step.wire.0 ≡ x → HasGiven steps starts readers step.wire.0 x values values' (holding marks (i / 64) held) (holding marks (i / 64) (bit_or held 0))
kept {steps = steps} {starts = starts} {readers = readers} {x = x} {values = values} step i held marks is same =
    subst (λ (l : List ℕ). HasGiven steps starts readers step.wire.0 x values l (holding marks (i / 64) held) (holding marks (i / 64) (bit_or held 0))) (sym is)
    (near_same steps starts readers step i x values marks held same)

-- its readers that are not near are a part of those of its wire
part : (starts readers : List ℕ) (step : Step) (i near : ℕ) → NearOf starts readers i step near → step.wire.0 + 1 < length starts → IsPart starts step.wire.0 step.first step.end
part starts readers step i near n inside = (inside, n.least, let a = n.last in omega (arith, a))

-- a step whose number is new, after these are marked
changed : {steps : List Step} {starts readers : List ℕ} {x near : ℕ} {values values' marks marks' : List ℕ} (step : Step) (i held : ℕ) → i / 64 < length marks
    → NearOf starts readers i step near → values' ≡ set values step.wire.0 x → HasMarked steps readers step.first step.end step.wire.0 values' marks marks'
    → HasGiven steps starts readers step.wire.0 x values values' (holding marks (i / 64) held) (holding marks' (i / 64) (bit_or held near))
changed {steps = steps} {starts = starts} {readers = readers} {x = x} {near = near} {values = values} {marks = marks} {marks' = marks'} step i held h n is marked =
    let p = step.wire.0 in
    let g : Near = record { mask = near; first = step.first; end = step.end } in
    subst (λ (l : List ℕ). HasGiven steps starts readers p x values l (holding marks (i / 64) held) (holding marks' (i / 64) (bit_or held g.mask))) (sym is)
    (near_new steps starts readers step i x values marks held g marks' h n
    (subst (λ (e : ℕ). HasMarked steps readers g.first e p (set values p x) marks marks') n.last
    (subst (λ (l : List ℕ). HasMarked steps readers g.first g.end p l marks marks') is marked)))

-- what is read at the place that a choice picks is the choice's number
chosen : {action : Action} {c a b x place number : ℕ} (f : ℕ → ℕ) → action ≡ Choose c a b → x ≡ f c → place ≡ pick x a b → number ≡ f place → number ≡ action_number f action
chosen {a = a} {b = b} {x = x} {number = number} f is condition at read =
    subst (λ (t : Action). number ≡ action_number f t) (sym is)
    (read ∙ ap f at ∙ pick_ap f x a b ∙ ap (λ y. pick y (f a) (f b)) condition)

pub returns-then-not-renew_low-clause-given : goal.returns-then-not-renew_low-clause-given
returns-then-not-renew_low-clause-given d = λ i held h near.
    let step = d.args.step.now in
    let is = chosen (slice_index d.args.values.now) d.in-Choose.is (d.from.ensures ∙ d.get_low.ensures) d.choose-chosen.ensures d.get_low-number.ensures in
    kept step i held d.args.marks.now (d.renew_low.ensures.is ∙ ap (set d.args.values.now step.wire.0) is) (d.renew_low.ensures.new d.if-not-renew_low.true ∙ is)

pub returns-in-Choose-clause-given : goal.returns-in-Choose-clause-given
returns-in-Choose-clause-given d = λ i held h near.
    let plan = d.args.plan.now in
    let step = d.args.step.now in
    let is = chosen (slice_index d.args.values.now) d.in-Choose.is (d.from.ensures ∙ d.get_low.ensures) d.choose-chosen.ensures d.get_low-number.ensures in
    let inside : step.wire.0 + 1 < length plan.starts.items = (let a = d.requires.lists.long in let b = d.requires.within in omega (arith, a, b)) in
    changed step i held h near (d.renew_low.ensures.is ∙ ap (set d.args.values.now step.wire.0) is)
    (d.mark_readers.ensures step.wire.0 (part plan.starts.items plan.readers.items step i d.args.near near inside))

pub returns-then-not-act_anew-clause-given : goal.returns-then-not-act_anew-clause-given
returns-then-not-act_anew-clause-given c = λ i held h near. kept c.args.step.now i held c.args.marks.now c.act_anew.ensures.is (c.act_anew.ensures.new c.if-not-act_anew.true)

pub returns-clause-long : goal.returns-clause-long
returns-clause-long c =
    let plan = c.args.plan.now in
    let step = c.args.step.now in
    let inside : step.wire.0 + 1 < length plan.starts.items = (let a = c.requires.lists.long in let b = c.requires.within in omega (arith, a, b)) in
    (c.mark_readers-2.ensures step.wire.0 (part plan.starts.items plan.readers.items step c.requires.near.0 c.args.near c.requires.near.1 inside)).long

pub returns-clause-given : goal.returns-clause-given
returns-clause-given c = λ i held h near.
    let plan = c.args.plan.now in
    let step = c.args.step.now in
    let inside : step.wire.0 + 1 < length plan.starts.items = (let a = c.requires.lists.long in let b = c.requires.within in omega (arith, a, b)) in
    changed step i held h near c.act_anew.ensures.is (c.mark_readers-2.ensures step.wire.0 (part plan.starts.items plan.readers.items step i c.args.near near inside))
