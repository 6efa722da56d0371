use Rattle.safl_check.proofs.Common.{known, option_or, rewritten, shown_tree}
use Rattle.std.proofs.Common.{◌≡◌, ◌+◌, arith, ap, ◌∙◌}
use Rattle.std.specs.Prelude.{Option, ℕ, min}
use Rattle.safl_check.specs.Parts.{own_nodes, own_sites, own_long_let}
use Rattle.safl_check.proofs.StackFromTop.{walk_smaller, walk_next}
use Rattle.safl_check.proofs.nodes.measure.Goals as goal

pub loop-e-smaller : goal.loop-e-smaller
loop-e-smaller c = walk_smaller c.loop-e.stack.items c.pop.new.self.items c.push_parts.new.stack.items c.in-Some.e c.in-Some.ensures.items c.in_ok-push_parts.ensures

pub loop-e-preserved : goal.loop-e-preserved
loop-e-preserved c =
    let k = known c.args.heads.now c.args.unit in
    let long : c.or-long_let.result ≡ option_or c.loop-e.long_let (own_long_let (shown_tree c.in-Some.e.now)) = c.or-long_let.ensures ∙ ap
    (λ (o : Option ℕ). option_or c.loop-e.long_let o) c.find_excess_binding.ensures in
    let sites : c.min-sites.result ≡ min 4001 (c.loop-e.sites + own_sites k (shown_tree c.in-Some.e.now)) = omega (arith, c.min-sites.ensures, c.sites_at.ensures) in
    let nodes : c.min-nodes.result ≡ min 50001 (c.loop-e.nodes + min 50001 (own_nodes (shown_tree c.in-Some.e.now))) = omega (arith, c.min-nodes.ensures, c.nodes_at.ensures) in
    walk_next k c.args.sites_before c.args.nodes_before (rewritten (shown_tree c.args.body.now)) c.loop-e.long_let c.loop-e.sites c.loop-e.nodes
    c.loop-e.stack.items c.pop.new.self.items c.push_parts.new.stack.items c.in-Some.e c.or-long_let.result c.min-sites.result c.min-nodes.result
    c.loop-e.invariant c.in-Some.ensures.items long sites nodes c.in_ok-push_parts.ensures
