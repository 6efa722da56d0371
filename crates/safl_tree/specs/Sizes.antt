-- How many expressions a tree has, itself included.
use Rattle.std.specs.Prelude.{ℕ, ◌+◌, ◌*◌}
use Rattle.safl_word.specs.Naturals.{work}
use Rattle.safl_tree.specs.declared.dismantle.At.{At}
use Rattle.safl_tree.specs.declared.tree.Expr.{Expr}
use Rattle.safl_tree.specs.declared.tree.Bind.{Bind}
use Rattle.safl_tree.specs.declared.tree.Arm.{Arm}
use Rattle.safl_tree.specs.Shown.{shown_tree}
use Rattle.safl_tree.specs.Tree.{Tree, Number, Sized, Variable, If, Let, Cases, Op, Call, Trees, no_tree, a_tree, Binds, no_bind, a_bind, Arms, default_arm, an_arm}

-- the size of a tree. Operators and calls count two, so that they are no leaves even without parts, and a label counts twice
abbrev mutual
  pub size : Tree → ℕ
  size (Number p n) = 1
  size (Sized p w n) = 1
  size (Variable p x) = 1
  size (If p c a b) = 1 + (size c + (size a + size b))
  size (Let p bs t) = 1 + (size_of_binds bs + size t)
  size (Cases p e arms) = 1 + (size e + size_of_arms arms)
  size (Op p o ts) = 2 + size_of_trees ts
  size (Call p f ts) = 2 + size_of_trees ts

  pub size_of_trees : Trees → ℕ
  size_of_trees no_tree = 0
  size_of_trees (a_tree t ts) = size t + size_of_trees ts

  pub size_of_binds : Binds → ℕ
  size_of_binds no_bind = 0
  size_of_binds (a_bind p x w t bs) = size t + size_of_binds bs

  pub size_of_arms : Arms → ℕ
  size_of_arms (default_arm t) = size t
  size_of_arms (an_arm l t arms) = 2 * size l + size t + size_of_arms arms

-- the size of the tree of an expression of the code
abbrev pub expr_size : Expr → ℕ
expr_size e = size (shown_tree e)

abbrev pub bind_size : Bind → ℕ
bind_size b = size (shown_tree b.value)

abbrev pub arm_size : Arm → ℕ
arm_size a = 2 * size (shown_tree a.label) + size (shown_tree a.value)

abbrev pub work_at : At → ℕ
work_at a = work (size (shown_tree a.here)) (size (shown_tree a.above))
