use Rattle.safl_parse.proofs.Common.{ap, min, shown_bounds, sym, ◌∙◌}
use Rattle.safl_tree.specs.Tree.{binds_of, deepest_bind}
use Rattle.safl_parse.proofs.Rows.{cap_bind_end}
use Rattle.safl_parse.proofs.part.push_bind.Goals as goal

pub invariant_of-result : goal.invariant_of-result
invariant_of-result c = record {
  capped = cap_bind_end c.args.bindings.binds.items c.args.next c.args.bindings.depth c.args.depth
      c.max-depth.result c.args.bindings.capped c.requires c.max-depth.ensures ∙ ap (λ es. min (deepest_bind (binds_of (shown_bounds es))) 100)
      (sym c.in_ok-push.ensures.items);
}
