use Rattle.safl_core.proofs.Common.{List, ap, arith, fun_ext, length, refilled, refl, rules, stage_at, unit_at, ◌<◌, ◌∙◌}
use Rattle.safl_calls.specs.Machine as core
use Rattle.safl_evaluate.specs.declared.stage.Stage.{Stage}
use Rattle.safl_core.proofs.WritesAreSteps.{unit_put, state_is}
use Rattle.safl_core.proofs.step.end.Goals as goal

pub returns-clause-steps : goal.returns-clause-steps
returns-clause-steps c =
    let C = c.args.c.now.program in
    let s = c.args.state.now in
    let u = c.args.u in
    let unit : u < length s.modes.items = omega (arith, c.requires.unit, c.requires.sized.units) in
    let units = unit_put s.modes.items u c.deliver.new.self unit ∙ ap (core.put (unit_at s.modes.items) u) c.deliver.ensures in
    let written = refilled s.stages c.end_sites.new.stages c.deref_mut.result.now c.end_sites.auto.stages c.deref_mut.ensures.value in
    let sites = ap (λ (x : List Stage). stage_at x) written ∙ fun_ext (λ k. c.end_sites.ensures.ended k ∙ ap (λ (x : List Stage). core.ended C u (stage_at x) k) c.deref_mut.ensures.value) in
    record {
      next = state_is _ _ _ _ units sites;
      answers = refl;
      wants = refl;
      kept = refl;
      sized = search rules;
    }
