use Rattle.safl_core.proofs.Common.{IsPlan, Word, widths, widths_len}
use Rattle.std.proofs.Common.{◌≡◌, ℕ, List, Option, None, get_or, ◌∙◌, ap, refl, sym, subst, length, arith}
use Rattle.safl_calls.specs.Machine.{State}
use Rattle.safl_calls.specs.Machine as core
use Rattle.safl_core.proofs.KeptAtFirst.{kept_open, opens}
use Rattle.safl_core.proofs.SetsAtFirst.{marked_first}
use Rattle.safl_core.proofs.LawsOfKept.{sized}
use Rattle.safl_core.specs.Marking.{AreMarked}
use Rattle.safl_core.proofs.machine.Machine.opened.Goals as goal

idle_runs : (f k : ℕ) (ws : List Word) → core.Idle ≡ core.Runs f k ws → ⊥
idle_runs f k ws e = grind arith

pub invariant_of-result : goal.invariant_of-result
invariant_of-result c =
    let kept = kept_open c.args.c.now c.new-2.result c.in_ok-modes.modes.items c.in_ok-stages.stages.items c.in_ok-answers.answers.items c.new-3.result.each.items _
    c.functions-functions.ensures.checked
    (ap widths c.new-2.ensures ∙ c.requires)
    c.in_ok-modes.ensures.idle
    c.in_ok-stages.ensures.unsent
    c.in_ok-answers.ensures.none
    (λ k. ap (λ (l : List (Option (List Word))). get_or l k None) c.new-3.ensures ∙ c.in_ok-wants.ensures.none k)
    (c.in_ok-modes.ensures.count ∙ c.functions-functions.ensures.count)
    (omega (arith, c.in_ok-stages.ensures.count, c.sites.ensures.count))
    (c.in_ok-answers.ensures.count ∙ c.functions-functions.ensures.count)
    (omega (arith, ap (λ (l : List (Option (List Word))). length l) c.new-3.ensures, c.in_ok-wants.ensures.count, c.sites.ensures.count))
    (omega (arith, c.in_ok-env.ensures)) in
    let is = opens c.args.c.now c.new-2.result c.in_ok-modes.modes.items c.in_ok-stages.stages.items c.in_ok-answers.answers.items
    c.new-3.result.each.items (length c.in_ok-env.env.items) c.in_ok-modes.ensures.idle c.in_ok-stages.ensures.unsent in
    record {
      kept = kept;
      marked = subst (λ (s : State). AreMarked c.args.c.now.program c.new-2.result s c.in_ok-sets.sets) (sym is)
          (marked_first c.args.c.now.program c.new-2.result c.in_ok-sets.sets (sized kept) c.in_ok-sets.ensures);
      planned = subst (λ (n : ℕ). IsPlan c.args.c.now.program c.in_ok-plan.plan n) (sym c.in_ok-kept.ensures) c.in_ok-plan.ensures;
      recalls = λ u. record {
        member = λ f k ws r. absurd (idle_runs f k ws (sym (c.in_ok-modes.ensures.idle u) ∙ r));
        holds = λ f k ws r. absurd (idle_runs f k ws (sym (c.in_ok-modes.ensures.idle u) ∙ r));
      };
    }

pub new-requires-2 : goal.new-requires-2
new-requires-2 c = omega (arith, widths_len c.args.args.now, ap (λ (l : List ℕ). length l) c.requires, c.functions-functions.ensures.checked.limits.params c.args.c.now.program.main)

pub returns : goal.returns
returns c = record {
  program = refl;
  given = c.new-2.ensures;
  first = opens c.args.c.now c.new-2.result c.in_ok-modes.modes.items c.in_ok-stages.stages.items c.in_ok-answers.answers.items
      c.new-3.result.each.items (length c.in_ok-env.env.items) c.in_ok-modes.ensures.idle c.in_ok-stages.ensures.unsent;
  none = refl;
}
