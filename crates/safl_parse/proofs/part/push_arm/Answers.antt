use Rattle.safl_parse.proofs.Common.{ap, min, shown_labelled, sym, ◌∙◌}
use Rattle.safl_parse.specs.Parts.{labelled_depth}
use Rattle.safl_parse.proofs.Rows.{cap_arm_end}
use Rattle.safl_parse.proofs.part.push_arm.Goals as goal

pub invariant_of-result : goal.invariant_of-result
invariant_of-result c = record {
  capped = cap_arm_end c.args.labels.arms.items _ c.len.result c.args.labels.depth c.args.value.depth
      c.arm_depth.result c.max-depth.result (c.len.ensures ∙ c.args.labels.arms.ok.0) c.args.labels.capped c.args.value.capped c.arm_depth.ensures
      c.max-depth.ensures ∙ ap (λ es. min (labelled_depth (shown_labelled es)) 100) (sym c.in_ok-push.ensures.items);
}
