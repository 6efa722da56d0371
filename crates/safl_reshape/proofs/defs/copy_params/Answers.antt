use Rattle.safl_reshape.proofs.Common.{List, Parameter, ap, ◌∙◌}
use Rattle.std.specs.Prelude.{ℕ}
use Rattle.safl_tree.specs.Shown.{shown_parameter}
use Rattle.safl_reshape.proofs.ListsLeft.{same_more}
use Rattle.safl_reshape.proofs.defs.copy_params.Goals as goal

pub loop-param-preserved : goal.loop-param-preserved
loop-param-preserved c =
    let shown : List ℕ → Parameter = λ (x : List ℕ). record { place = c.param-item.result.place; name = x; width = c.param-item.result.width } in
    same_more shown_parameter c.args.params.now c.loop-param.param-index c.param-item.result c.loop-param.all.items c.push.new.self.items _ _
    c.loop-param-test.true c.param-item.is c.in_ok-push.ensures.items (ap shown (c.in_ok-name.ensures.bytes ∙ c.bytes.ensures.bytes)) c.loop-param.invariant
