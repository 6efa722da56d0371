use Rattle.safl_reshape.proofs.Common.{Def, Head, drop_all, heads, nodes_of, shown_definitions, shown_tree, site_total, sites_in_tree}
use Rattle.std.proofs.Common.{◌≡◌, List, [], drop, subst, arith}
use Rattle.safl_typing.specs.Rewriting.{rewritten, nodes}
use Rattle.safl_reshape.specs.Counting.{Adds}
use Rattle.safl_reshape.proofs.Counted.{Left, left_less, all_left, none_left, total_left, defs_nodes_left}
use Rattle.safl_reshape.proofs.limits.count_defs.Goals as goal

pub loop-number-preserved : goal.loop-number-preserved
loop-number-preserved c =
    let hs = heads (shown_definitions c.args.defs.now) in
    let v = c.next_unit-unit.result in
    let d = c.index-defs-number.result in
    let a = subst (λ (z : List Head). Adds c.loop-number.counts c.count-counts.result
    (sites_in_tree (record { heads = z; unit = v }) (shown_tree d.body)) (nodes (rewritten (shown_tree d.body)))) c.requires.heads c.count-counts.ensures in
    left_less _ _ _ _ _ _ _ _ _ _ _ c.loop-number.invariant a
    (total_left hs c.args.defs.now c.loop-number.number c.loop-number.unit v d c.loop-number-test.true c.index-defs-number.is
    c.next_unit-unit.ensures) (defs_nodes_left c.args.defs.now c.loop-number.number d c.loop-number-test.true c.index-defs-number.is)

pub loop-number-init : goal.loop-number-init
loop-number-init c = all_left _ _ _

pub returns : goal.returns
returns c =
    let hs = heads (shown_definitions c.args.defs.now) in
    let none : drop c.loop-number.number c.args.defs.now ≡ [] = drop_all c.loop-number.number c.args.defs.now c.loop-number-test.false in
    let l : Left (record { sites = 0; nodes = 0 }) c.loop-number.counts 0 0 (site_total hs 0 0 (shown_definitions c.args.defs.now)) (nodes_of (shown_definitions c.args.defs.now)) =
    subst (λ (l : List Def). Left (record { sites = 0; nodes = 0 }) c.loop-number.counts
    (site_total hs c.loop-number.number c.loop-number.unit (shown_definitions l)) (nodes_of (shown_definitions l))
    (site_total hs 0 0 (shown_definitions c.args.defs.now)) (nodes_of (shown_definitions c.args.defs.now))) none c.loop-number.invariant in
    let a = none_left (record { sites = 0; nodes = 0 }) c.loop-number.counts (site_total hs 0 0 (shown_definitions c.args.defs.now)) (nodes_of (shown_definitions c.args.defs.now)) l in
    record { sites = omega (arith, a.sites); nodes = omega (arith, a.nodes) }
