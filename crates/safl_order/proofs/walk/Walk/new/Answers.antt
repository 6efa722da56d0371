use Rattle.safl_order.proofs.Common.{Frame, Mark, Sig, Unseen, Walks}
use Rattle.std.proofs.Common.{◌≡◌, List, [], length, replicate, sym, ap, subst, ◌∙◌}
use Rattle.safl_order.proofs.Steps.{walks_none}
use Rattle.safl_order.proofs.walk.Walk.new.Goals as goal

pub returns-clause-walks : goal.returns-clause-walks
returns-clause-walks c =
    let n = c.args.net.now in
    let e : c.in_ok-vec.field-0.items ≡ replicate (length n.signals) Unseen = c.in_ok-vec.ensures.items_if_clones_equal (λ y q. q) ∙ ap (λ k. replicate k Unseen) c.signals-count.ensures.count in
    subst (λ (d : List Sig). Walks n d c.in_ok-vec.field-0.items c.new-2.result.items) (sym c.new.ensures.items)
    (subst (λ (l : List Mark). Walks n [] l c.new-2.result.items) (sym e)
    (subst (λ (l : List Frame). Walks n [] (replicate (length n.signals) Unseen) l) (sym c.new-2.ensures.items) (walks_none n c.signals-count.ensures.netlist)))
