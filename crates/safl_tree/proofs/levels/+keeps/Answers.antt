use Rattle.safl_tree.proofs.Common.{arith, shown_tree}
use Rattle.safl_tree.proofs.Descent.{depth_some, call_keeps}
use Rattle.safl_tree.proofs.levels.+keeps.Goals as goal

pub keeps-returns-then-depth-eq0 : goal.keeps-returns-then-depth-eq0
keeps-returns-then-depth-eq0 t c = (λ h. absurd cc, λ k. let s = depth_some (shown_tree c.args.e.now) in absurd (omega (arith, k, s)))

pub keeps-returns-then-levels-gt0-4 : goal.keeps-returns-then-levels-gt0-4
keeps-returns-then-levels-gt0-4 t c = call_keeps c.args.levels c.args.depth c.in-Call.ensures.shown (omega arith) (omega arith) c.parts_keep.ensures
