use Rattle.std.proofs.Common.{sym, ap, subst, ◌∙◌}
use Rattle.safl_calls.specs.Labels.{Twins}
use Rattle.safl_labels.specs.Shown.{shown_labels}
use Rattle.safl_labels.proofs.Alike.{same_bits, suffices_twins}
use Rattle.safl_labels.proofs.keeping.is_kept.Goals as goal

pub returns : goal.returns
returns c = λ z.
    let L = shown_labels c.args.labels.now in
    let C = c.args.c.now.program in
    let f = c.args.f in
    let k = suffices_twins L (L.params f) (C.body f) (C.body f) c.in_ok-found.found c.of_result-public.result c.in_ok-found.ensures (sym c.suffices.ensures ∙ c.if-not-suffices.false) in
    record {
      twins = subst (Twins L (L.params f) (C.body f) (C.body f)) c.of_result-public.ensures k;
      grouped = sym c.of_result-public.ensures ∙ (sym (same_bits _ _ z) ∙ (c.of_result.ensures ∙ ap L.result c.unit.ensures.number));
    }
