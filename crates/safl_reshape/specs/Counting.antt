-- Adding to counts of call sites and nodes.
use Rattle.std.specs.Prelude.{◌≡◌, ℕ, ◌+◌, min, List, [], ◌∷◌}
use Rattle.safl_word.specs.Limits.{count_max}
use Rattle.safl_tree.specs.Tree.{Tree, Bound, Labelled}
use Rattle.safl_typing.specs.Rewriting.{rewritten}
use Rattle.safl_typing.specs.Rewriting as plain
use Rattle.safl_reshape.specs.declared.counts.Counts.{Counts}

-- a number, or the maximum of its type if that is less
abbrev pub saturated : ℕ → ℕ
saturated n = min count_max n

-- the new counts have this many more sites and nodes, up to the maximum of the type
pub record Adds (old new : Counts) (s n : ℕ) : Type 0 where
  pub sites : saturated new.sites ≡ saturated (old.sites + s)
  pub nodes : saturated new.nodes ≡ saturated (old.nodes + n)

-- the number of nodes of lists of expressions. An arm stands for an if, its test and the test's variable
abbrev pub nodes_list : List Tree → ℕ
nodes_list [] = 0
nodes_list (t ∷ ts) = plain.nodes (rewritten t) + nodes_list ts

abbrev pub nodes_bounds : List Bound → ℕ
nodes_bounds [] = 0
nodes_bounds (b ∷ bs) = plain.nodes (rewritten b.value) + nodes_bounds bs

abbrev pub nodes_labelled : List Labelled → ℕ
nodes_labelled [] = 0
nodes_labelled (a ∷ arms) = (3 + (plain.nodes (rewritten a.label) + plain.nodes (rewritten a.value))) + nodes_labelled arms
