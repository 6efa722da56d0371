use Rattle.std.proofs.Common.{◌∙◌}
use Rattle.safl_parse.proofs.Rows.{cap_default}
use Rattle.safl_parse.proofs.part.with_default.Goals as goal

pub invariant_of-result : goal.invariant_of-result
invariant_of-result c = record {
  capped = cap_default c.args.labels.arms.items c.args.default.expr c.len.result c.args.labels.depth
      c.args.default.depth c.default_depth.result c.max-depth.result (c.len.ensures ∙ c.args.labels.arms.ok.0) c.args.labels.capped
      c.args.default.capped c.default_depth.ensures c.max-depth.ensures;
}
