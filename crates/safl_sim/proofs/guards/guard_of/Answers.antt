use Rattle.std.proofs.Common.{◌≡◌, ◌<◌, ℕ, List, length, Some, slice_get, slice_index, sym, subst, ◌∙◌}
use Rattle.safl_word.proofs.Lists.{get_read}
use Rattle.safl_sim.specs.declared.step.Step.{Step}
use Rattle.safl_sim.specs.declared.step.Action.{Action}
use Rattle.safl_sim.specs.Readers.{IsBlind, Blind}
use Rattle.safl_sim.proofs.guards.guard_of.Goals as goal

-- a step that is blind to a place
blind : (steps : List Step) (place k : ℕ) (step : Step) (values : List ℕ) → k < length steps → slice_get steps k ≡ Some step → IsBlind
    (slice_index values) place step.action → Blind steps values place k
blind steps place k step values within at is = (
  within,
  λ s at'.
      let same : Some step ≡ Some s = sym at ∙ at' in
      let one : step ≡ s = cc in
      subst (λ (t : Step). IsBlind (slice_index values) place t.action) one is,
)

pub returns-in-Choose : goal.returns-in-Choose
returns-in-Choose c = λ values u.
    let step = c.in-Some.step.now in
    let found = c.in-Some.ensures.lookup in
    blind c.args.steps.now c.args.place c.args.k step values found.3.0 (get_read c.args.steps.now c.args.k step found.3.0 found.1)
    (subst (λ (a : Action). IsBlind (slice_index values) c.args.place a) (sym c.in-Choose.is) (c.guard_in.ensures (slice_index values) u))

pub returns-in-WideChoose : goal.returns-in-WideChoose
returns-in-WideChoose c = λ values u.
    let step = c.in-Some.step.now in
    let found = c.in-Some.ensures.lookup in
    blind c.args.steps.now c.args.place c.args.k step values found.3.0 (get_read c.args.steps.now c.args.k step found.3.0 found.1)
    (subst (λ (a : Action). IsBlind (slice_index values) c.args.place a) (sym c.in-WideChoose.is) (c.guard_in-in-WideChoose.ensures (slice_index values) u))
