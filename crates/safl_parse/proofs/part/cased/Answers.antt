use Rattle.safl_parse.proofs.Common.{ap, min, shown_labelled, shown_tree, sym, ◌+◌, ◌∙◌, ◌≡◌}
use Rattle.safl_tree.specs.Tree.{Cases, arms_of, depth, deepest_arm}
use Rattle.safl_tree.proofs.ShownTrees.{case_shows}
use Rattle.safl_parse.proofs.Rows.{cap_case}
use Rattle.safl_parse.proofs.part.cased.Goals as goal

pub invariant_of-result : goal.invariant_of-result
invariant_of-result c =
    let e = c.in_ok-scrutinee.ensures.ok in
    let d = c.in_ok-default.ensures.ok in
    let k : c.args.scrutinee.depth ≡ min (depth (shown_tree c.in_ok-scrutinee.scrutinee.value)) 100 = c.args.scrutinee.capped ∙ ap (λ x. min (depth (shown_tree x)) 100) (sym e) in
    let l : c.args.arms.depth ≡ min (deepest_arm (arms_of (shown_labelled c.args.arms.arms.items) (shown_tree c.in_ok-default.default.value))) 100 =
    c.args.arms.capped ∙ ap (λ x. min (deepest_arm (arms_of (shown_labelled c.args.arms.arms.items) (shown_tree x))) 100) (sym d) in
    record {
      capped = cap_case c.in_ok-scrutinee.scrutinee c.args.arms.arms c.in_ok-default.default c.args.place c.args.scrutinee.depth
          c.args.arms.depth c.above-depth.result k l (c.above-depth.ensures ∙ ap (λ x. min (1 + x) 100) c.max.ensures);
    }

pub returns : goal.returns
returns c =
    case_shows c.in_ok-scrutinee.scrutinee c.args.arms.arms c.in_ok-default.default c.args.place
    ∙ ap (λ x. Cases c.args.place (shown_tree x) (arms_of (shown_labelled c.args.arms.arms.items) (shown_tree c.in_ok-default.default.value))) c.in_ok-scrutinee.ensures.ok
    ∙ ap (λ x. Cases c.args.place (shown_tree c.args.scrutinee.expr) (arms_of (shown_labelled c.args.arms.arms.items) (shown_tree x))) c.in_ok-default.ensures.ok
