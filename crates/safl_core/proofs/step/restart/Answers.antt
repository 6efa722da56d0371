use Rattle.safl_core.proofs.Common.{NotYet, args_given, fun_ext, get_or_read, idle_mode, mode_of, refilled, stage_at, unit_at}
use Rattle.std.proofs.Common.{◌≡◌, ◌<◌, List, length, get_or, refl, ap, ◌∙◌, rules, arith}
use Rattle.safl_calls.specs.Machine as core
use Rattle.safl_core.specs.declared.mode.Mode.{Mode}
use Rattle.safl_evaluate.specs.declared.stage.Stage.{Stage}
use Rattle.safl_core.specs.Shown.{serves_of}
use Rattle.safl_core.proofs.WritesAreSteps.{unit_put, state_is}
use Rattle.safl_core.proofs.step.restart.Goals as goal

pub returns-clause-restarts : goal.returns-clause-restarts
returns-clause-restarts c =
    let C = c.args.c.now.program in
    let s = c.args.state.now in
    let u = c.args.u in
    let unit : u < length s.modes.items = omega (arith, c.requires.unit, c.requires.sized.units) in
    let entered : c.index_mut.result.now ≡ get_or s.modes.items u idle_mode = get_or_read s.modes.items u _ unit c.index_mut.ensures.value idle_mode in
    let read : c.index.result.now ≡ get_or s.answers.items u NotYet = get_or_read s.answers.items u _ (omega (arith, c.requires.unit, c.requires.sized.answers)) c.index.ensures NotYet in
    let mode = c.enter.ensures ∙ (ap (λ (m : Mode). core.Runs c.args.h (serves_of (mode_of m)) c.words.result.now) entered ∙ ap
    (core.Runs c.args.h (serves_of (unit_at s.modes.items u))) c.words.ensures.words) in
    let units = unit_put s.modes.items u c.enter.new.self unit ∙ ap (core.put (unit_at s.modes.items) u) mode in
    let written = refilled s.stages c.end_sites.new.stages c.deref_mut.result.now c.end_sites.auto.stages c.deref_mut.ensures.value in
    let sites = ap (λ (x : List Stage). stage_at x) written ∙ fun_ext (λ k. c.end_sites.ensures.ended k ∙ ap (λ (x : List Stage). core.ended C u (stage_at x) k) c.deref_mut.ensures.value) in
    record {
      args = c.in-Some.args.now;
      passed = c.in-Some.ensures.some ∙ ap args_given read;
      steps = record {
        next = state_is _ _ _ _ units sites;
        answers = refl;
        wants = refl;
        kept = refl;
        sized = search rules;
      };
    }
