-- The plain tree of an expression at a place, by what stands at its top.
use Rattle.std.specs.Prelude.{ℕ, ◌<◌}
use denote.Param.Weighed.{most}
use Rattle.safl_tree.specs.declared.tree.Expr.{size-Expr}
use Rattle.safl_tree.specs.declared.tree.Bind.{size-Bind}
use Rattle.safl_tree.specs.declared.tree.Arm.{size-Arm}
use Rattle.safl_tree.specs.declared.opened.Opened.{Opened}
use Rattle.safl_tree.specs.declared.opened.Opened.TheVariants as opened
use Rattle.safl_tree.specs.Tree.{Tree, Number, Sized, Variable, If, Let, Cases, Op, Call, trees_of, binds_of, arms_of}
use Rattle.safl_tree.specs.Shown.{shown_tree, shown_trees, shown_bounds, shown_labelled}

abbrev pub shown_opened : Opened → ℕ → Tree
shown_opened (opened.Num n) p = Number p n
shown_opened (opened.Sized w n) p = Sized p w n
shown_opened (opened.Var x) p = Variable p x.now
shown_opened (opened.If c a b) p = If p (shown_tree c.now) (shown_tree a.now) (shown_tree b.now)
shown_opened (opened.Let bs t) p = Let p (binds_of (shown_bounds bs.now)) (shown_tree t.now)
shown_opened (opened.Case e arms d) p = Cases p (shown_tree e.now) (arms_of (shown_labelled arms.now) (shown_tree d.now))
shown_opened (opened.Op o es) p = Op p o (trees_of (shown_trees es.now))
shown_opened (opened.Call f es) p = Call p f.now (trees_of (shown_trees es.now))

-- the parts of an expression of this depth are less deep
abbrev pub AreBelow : ℕ → Opened → Type 0
AreBelow d (opened.If c a b) = (size-Expr c.now < d) × (size-Expr a.now < d) × (size-Expr b.now < d)
AreBelow d (opened.Let bs t) = (most size-Bind bs.now < d) × (size-Expr t.now < d)
AreBelow d (opened.Case e arms o) = (size-Expr e.now < d) × (most size-Arm arms.now < d) × (size-Expr o.now < d)
AreBelow d (opened.Op o es) = most size-Expr es.now < d
AreBelow d (opened.Call f es) = most size-Expr es.now < d
AreBelow d _ = Unit {0}
