use Rattle.safl_parse.proofs.Common.{ap, min, shown_trees, sym, ◌∙◌}
use Rattle.safl_tree.specs.Tree.{trees_of, deepest}
use Rattle.safl_parse.proofs.Rows.{cap_end}
use Rattle.safl_parse.proofs.part.push.Goals as goal

pub invariant_of-result : goal.invariant_of-result
invariant_of-result c = record {
  capped = cap_end c.args.parts.exprs.items c.args.next.expr c.args.parts.depth c.args.next.depth
      c.max-depth.result c.args.parts.capped c.args.next.capped c.max-depth.ensures ∙ ap (λ es. min (deepest (trees_of (shown_trees es))) 100)
      (sym c.in_ok-push.ensures.items);
}
