use Rattle.safl_reshape.proofs.Common.{Head, change_of, changed, heads, shown_definitions, shown_tree, sites_in_tree}
use Rattle.std.proofs.Common.{◌≡◌, ◌-◌, ◌+◌, suc, List, subst, arith}
use Rattle.safl_reshape.proofs.ListsLeft.{defs_more}
use Rattle.safl_reshape.proofs.defs.change_defs.Goals as goal

pub loop-number-preserved : goal.loop-number-preserved
loop-number-preserved c =
    let hs = heads (shown_definitions c.args.defs.now) in
    let v = c.next_unit-unit.result in
    let i = c.loop-number.invariant in
    let ch = change_of c.args.site c.args.changes.now in
    let b = subst (λ (z : List Head). shown_tree c.in_ok-body.body ≡ changed (record { heads = z; unit = v }) ch i.0
    (shown_tree c.index-defs-number.result.body)) c.requires.heads (c.in_ok-body.ensures.tree c.args.site i.0 i.1) in
    let q = subst (λ (z : List Head). c.change.new.left ≡ c.loop-number.left - sites_in_tree (record { heads = z; unit = v })
    (shown_tree c.index-defs-number.result.body)) c.requires.heads c.in_ok-body.ensures.left in
    let l : c.change.new.left ≡ suc c.args.site - (i.0 + sites_in_tree (record { heads = hs; unit = v }) (shown_tree c.index-defs-number.result.body)) = omega (arith, i.1, q) in (
      i.0 + sites_in_tree (record { heads = hs; unit = v }) (shown_tree c.index-defs-number.result.body),
      l,
      defs_more hs ch c.args.defs.now c.loop-number.number c.loop-number.unit v i.0 c.index-defs-number.result c.loop-number.all.items
          c.push.new.self.items c.in_ok-next.next (shown_tree c.in_ok-body.body) _ c.loop-number-test.true c.index-defs-number.is
          c.next_unit-unit.ensures c.in_ok-push.ensures.items c.in_ok-next.ensures b i.2,
    )
