-- Depths of parts that are collected one by one.
use Rattle.std.specs.Prelude.{ℕ, ◌+◌, max, List, [], ◌∷◌, ◌++◌}
use Rattle.safl_tree.specs.declared.tree.Expr.{Expr}
use Rattle.safl_tree.specs.Tree.{Labelled, depth}
use Rattle.safl_tree.specs.Shown.{shown_tree}

-- the depth of the ifs that these arms stand for, without the default
abbrev pub labelled_depth : List Labelled → ℕ
labelled_depth [] = 0
labelled_depth (a ∷ arms) = 1 + max 2 (max (depth a.value) (labelled_depth arms))

-- the arms with one more at the end
abbrev pub with_arm : List Labelled → (label value : Expr) → List Labelled
with_arm arms label value = arms ++ record { label = shown_tree label; value = shown_tree value } ∷ []
