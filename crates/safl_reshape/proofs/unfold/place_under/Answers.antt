use Rattle.safl_reshape.proofs.Common.{IfOk-weaker, Param, nat_tests, shown_bounds, shown_parameters, shown_tree, shown_trees, zipped, ◌==◌}
use Rattle.std.proofs.Common.{◌≡◌, ◌<◌, List, Bool, false, ℕ, ap, sym, ◌∙◌, arith, length}
use Rattle.std.proofs.lemmas.List.{length-map}
use Rattle.safl_reshape.proofs.BoundParams.{under_done}
use Rattle.safl_reshape.proofs.unfold.place_under.Goals as goal

some_there : (n m : ℕ) (b : Bool) → b ≡ (n == 0) → b ≡ false → m ≡ n → 0 < m
some_there n m b e f g = grind (arith, nat_tests)

pub returns : goal.returns
returns c = IfOk-weaker c.bind.result _ _ (λ x h.
    let m : 0 < length (shown_trees c.args.arguments.now) = some_there _ _ c.is_empty-else-is_empty.result c.is_empty-else-is_empty.ensures
    c.if-is_empty-2.false (length-map c.args.arguments.now shown_tree) in
    let l : 0 < length c.args.def.now.params.items = some_there _ _ c.is_empty.result c.is_empty.ensures c.if-is_empty.false
    (sym (ap (λ (z : List Param). length z) c.deref.ensures.value) ∙ c.deref.ensures.len) in
    let z = c.in_ok-binds.ensures ∙ ap (λ (ps : List Param). zipped (shown_parameters ps) (shown_trees c.args.arguments.now)) c.deref.ensures.value in
    under_done c.args.place c.args.def.now.params.items (shown_trees c.args.arguments.now) (shown_tree x) (shown_tree c.in_ok-body.body)
    (shown_tree c.args.def.now.body) (shown_bounds c.in_ok-binds.binds.items) l m z h c.in_ok-body.ensures.tree) c.bind.ensures
