use Rattle.safl_tree.proofs.Common.{AllKeepLevels, Def, drop_read, shown_definitions, shown_tree}
use Rattle.std.proofs.Common.{IsTrue, List, length, get_or, subst, ap, ◌∙◌, arith}
use Rattle.safl_tree.proofs.Depths.{keeps_levels}
use Rattle.safl_tree.proofs.levels.levels_ok.Goals as goal

pub returns-then-not-keeps : goal.returns-then-not-keeps
returns-then-not-keeps c = (
  λ h. absurd cc,
  λ k.
      let rest = subst (λ (ds : List Def). AllKeepLevels (shown_definitions ds))
      (drop_read c.args.p.now.defs.items c.loop-def.def-index c.def-item.result
      (omega (arith, c.loop-def-test.true, ap (λ (ds : List Def). length ds) c.deref-def-items.ensures.value))
      (c.def-item.is ∙ ap (λ (ds : List Def). get_or ds c.loop-def.def-index c.def-item.result) c.deref-def-items.ensures.value)) (c.loop-def.invariant.1 k) in
      let kept : IsTrue c.keeps.result = c.keeps.ensures.1 ((keeps_levels (shown_tree c.def-item.result.body)).1 rest.0) in
      absurd cc,
)
