use Rattle.safl_core.proofs.Common.{ap, arith, length, refl, rules, unit_at, ◌<◌, ◌∙◌}
use Rattle.safl_calls.specs.Machine as core
use Rattle.safl_evaluate.specs.declared.stage.Stage.TheVariants.{Returned}
use Rattle.safl_core.proofs.WritesAreSteps.{unit_put, stage_put, state_is}
use Rattle.safl_core.proofs.step.give_back.Goals as goal

pub returns : goal.returns
returns c =
    let s = c.args.state.now in
    let k = c.args.k in
    let unit : c.unit_for.result < length s.modes.items = omega (arith, c.unit_for.ensures.within, c.requires.sized.units) in
    let site : k < length s.stages.items = omega (arith, c.requires.site, c.requires.sized.sites) in
    record {
      next = state_is _ _ _ _
          (unit_put s.modes.items c.unit_for.result c.rest.new.self unit
          ∙ (ap (core.put (unit_at s.modes.items) c.unit_for.result) c.rest.ensures
          ∙ ap (λ u. core.put (unit_at s.modes.items) u core.Idle) c.unit_for.ensures.number))
          (stage_put s.stages.items k (Returned c.args.word) site);
      answers = refl;
      wants = refl;
      kept = refl;
      sized = search rules;
    }
