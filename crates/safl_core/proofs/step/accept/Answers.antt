use Rattle.safl_core.proofs.Common.{IsSome, Word, calls_of, unit_at}
use Rattle.std.proofs.Common.{◌≡◌, ◌<◌, List, Option, length, get_or, None, Some, refl, sym, ap, ◌∙◌, subst, rules, arith}
use Rattle.safl_calls.specs.Machine as core
use Rattle.safl_evaluate.specs.declared.stage.Stage.TheVariants.{Sent}
use Rattle.safl_core.proofs.KeptByEvents.{accept_wanted, accept_words}
use Rattle.safl_core.proofs.LawsOfKept.{accept_within}
use Rattle.safl_core.proofs.WritesAreSteps.{unit_put, stage_put, state_is}
use Rattle.safl_core.proofs.step.accept.Goals as goal

pub given-args-requires-clause-within : goal.given-args-requires-clause-within
given-args-requires-clause-within c =
    let h = c.requires.kept.1 in
    omega (arith, accept_within h c.args.k c.requires.can, h.wants_all, ap (λ (l : List (Option (List Word))). length l) c.deref.ensures.value)

pub given-args-requires-clause-some : goal.given-args-requires-clause-some
given-args-requires-clause-some c = λ inner. subst (λ (x : Option (List Word)). IsSome x)
    (sym (ap (λ (l : List (Option (List Word))). get_or l c.args.k None) c.deref.ensures.value ∙ accept_wanted c.requires.kept.1 c.args.k c.requires.can.0 c.requires.can.1 inner)) refl

pub returns : goal.returns
returns c =
    let C = c.args.c.now.program in
    let s = c.args.state.now in
    let k = c.args.k in
    let h = c.requires.kept.1 in
    let can = c.requires.can in
    let args = c.given-args.result.now in
    let asked : core.asked C c.args.opening.now (calls_of s) k ≡ Some args = accept_words h k can.0 args can.1 c.given-args.ensures.opening
    (λ inner. sym (ap (λ (l : List (Option (List Word))). get_or l k None) c.deref.ensures.value) ∙ c.given-args.ensures.wanted inner) in
    let unit : c.unit_for.result < length s.modes.items = omega (arith, c.unit_for.ensures.within, h.units) in
    let site : k < length s.stages.items = omega (arith, accept_within h k can, h.sites) in
    let mode = c.run.ensures ∙ (ap (λ f. core.Runs f k c.words.result.now) c.callee.ensures.number ∙ ap (core.Runs (C.callee k) k) c.words.ensures.words) in
    record {
      next = state_is _ _ _ _
          (unit_put s.modes.items c.unit_for.result c.run.new.self unit
          ∙ (ap (core.put (unit_at s.modes.items) c.unit_for.result) mode
          ∙ ap (λ u. core.put (unit_at s.modes.items) u (core.Runs (C.callee k) k args)) c.unit_for.ensures.number))
          (stage_put s.stages.items k Sent site)
          ∙ ap (core.accept C (calls_of s) k) (sym asked);
      answers = refl;
      wants = refl;
      kept = refl;
      sized = search rules;
    }
