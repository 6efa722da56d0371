use Rattle.std.proofs.Common.{ℕ, ◌+◌, List, Vec, Global, sym, ap, subst, ◌∙◌}
use Rattle.safl_vparse.specs.Shown.{shown_declaration, shown_declarations}
use Rattle.safl_vread.proofs.Orders.{Adds, adds_place, skips_place}
use Rattle.safl_vread.proofs.places.add_places.Goals as goal
use Rattle.safl_vread.proofs.places.add_places.Goals.{then-is_of+in_ok-push, else-is_of}

pub loop-i-preserved : goal.loop-i-preserved
loop-i-preserved c =
    let P : List ℕ → Type 0 = λ (k : List ℕ). Adds (shown_declarations c.args.scope.now.text.now c.args.scope.now.declarations.now)
    (shown_declaration c.args.scope.now.text.now) c.args.scope.now.declarations.now c.args.sort c.args.order.now.items k (c.loop-i.i + 1) in
    elim c.if-is_of.branch [
      | then-is_of+in_ok-push w ↦ subst P (sym (ap (λ (v : Vec ℕ Global). v.items) w.order-is ∙ w.in_ok-push.ensures.items))
          (adds_place (shown_declaration c.args.scope.now.text.now) c.args.scope.now.declarations.now c.args.sort c.args.order.now.items
          c.loop-i.order.items c.loop-i.i _ c.loop-i-test.true c.loop-i.invariant (sym c.is_of.ensures ∙ w.if-is_of.true))
      | else-is_of w ↦ subst P (sym (ap (λ (v : Vec ℕ Global). v.items) w.order-is))
          (skips_place (shown_declaration c.args.scope.now.text.now) c.args.scope.now.declarations.now c.args.sort c.args.order.now.items
          c.loop-i.order.items c.loop-i.i _ c.loop-i-test.true c.loop-i.invariant (sym c.is_of.ensures ∙ w.if-is_of.false))
    ]
