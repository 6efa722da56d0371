use Rattle.safl_parse.proofs.Common.{ap, min, shown_bounds, shown_tree, sym, ◌+◌, ◌∙◌, ◌≡◌}
use Rattle.safl_tree.specs.Tree.{Let, binds_of, depth}
use Rattle.safl_tree.proofs.ShownTrees.{let_shows}
use Rattle.safl_parse.proofs.Rows.{cap_let}
use Rattle.safl_parse.proofs.part.bound.Goals as goal

pub invariant_of-result : goal.invariant_of-result
invariant_of-result c =
    let e = c.in_ok-body.ensures.ok in
    let k : c.args.body.depth ≡ min (depth (shown_tree c.in_ok-body.body.value)) 100 = c.args.body.capped ∙ ap (λ x. min (depth (shown_tree x)) 100) (sym e) in
    record {
      capped = cap_let c.args.bindings.binds c.in_ok-body.body c.args.place c.args.bindings.depth c.args.body.depth c.above-depth.result
          c.args.bindings.capped k (c.above-depth.ensures ∙ ap (λ x. min (1 + x) 100) c.max.ensures);
    }

pub returns : goal.returns
returns c = let_shows c.args.bindings.binds c.in_ok-body.body c.args.place ∙ ap (λ x. Let c.args.place (binds_of (shown_bounds c.args.bindings.binds.items)) (shown_tree x)) c.in_ok-body.ensures.ok
