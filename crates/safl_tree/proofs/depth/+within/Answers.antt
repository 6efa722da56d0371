use Rattle.safl_tree.proofs.Common.{arith, shown_tree}
use Rattle.safl_tree.proofs.Descent.{depth_some}
use Rattle.safl_tree.proofs.depth.+within.Goals as goal

pub is_within-returns-then-levels-eq0 : goal.is_within-returns-then-levels-eq0
is_within-returns-then-levels-eq0 t c = (λ h. absurd cc, λ h. let s = depth_some (shown_tree c.args.e.now) in absurd (omega (arith, h, s)))
