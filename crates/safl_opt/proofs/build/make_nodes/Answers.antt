use Rattle.safl_opt.proofs.Common.{Placed, [], ap, arith, subst, sym, ◌++◌, ◌+◌, ◌∙◌, ◌∷◌}
use Rattle.safl_opt.proofs.Placing.{placed_none}
use Rattle.safl_opt.proofs.build.make_nodes.Goals as goal

pub nodes-init : goal.nodes-init
nodes-init c =
    placed_none c.args.old.now c.signals-count.ensures.netlist c.requires.folds.0 c.requires.folds.1 c.args.values.now c.requires.folds.2
    c.args.read.now c.requires.read c.in_ok-made.made.items c.args.net.now c.requires.tidy
    c.in_ok-made.ensures.long c.in_ok-made.ensures.own c.requires.declared

pub place_node-requires-clause-placed : goal.place_node-requires-clause-placed
place_node-requires-clause-placed c = subst (λ l. Placed c.args.old.now c.args.values.now c.args.read.now c.nodes.i l c.nodes.net) (sym c.as_slice.ensures.value) c.nodes.invariant

pub nodes-preserved : goal.nodes-preserved
nodes-preserved c =
    subst (λ l. Placed c.args.old.now c.args.values.now c.args.read.now (c.nodes.i + 1) l c.place_node.new.net)
    (ap (λ l. l ++ c.in_ok-s.s ∷ []) c.as_slice.ensures.value ∙ sym c.in_ok-push.ensures.items) c.in_ok-s.ensures

pub returns : goal.returns
returns c =
    subst (λ k. Placed c.args.old.now c.args.values.now c.args.read.now k c.nodes.made.items c.nodes.net)
    (let a = c.nodes.auto.i-end in let b = c.nodes-test.false in let d = c.len-i-end.ensures.count in omega (arith, a, b, d)) c.nodes.invariant
