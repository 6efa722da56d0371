-- Expressions that keep given numbers of levels and of depth, and whose left operands are shallow.
use Rattle.std.specs.Prelude.{ℕ, ◌+◌, ◌≤◌}
use Rattle.safl_word.specs.declared.primitive.Primitive.{Primitive}
use Rattle.safl_tree.specs.Tree.{Tree, Trees, Binds, Arms, depth, deepest, deepest_bind, deepest_arm}
use Rattle.safl_tree.specs.Printable.{is_binary, left_context, right_context, below_of, layers_of, lifted, levels, most_operand, most_bind, most_arm, LeftShallow, OfBinary, IsShallow, AreShallow, AreShallowBinds, AreShallowArms}

abbrev pub Keeps : ℕ → ℕ → Tree → Type 0
Keeps n d t = (levels t ≤ n) × IsShallow t × (depth t ≤ d)

-- an operand in a context of k layers
abbrev pub PartKeeps : ℕ → ℕ → ℕ → Tree → Type 0
PartKeeps k n d t = (lifted k (layers_of t) (levels t) ≤ n) × IsShallow t × (depth t ≤ d)

abbrev pub PartsKeep : ℕ → ℕ → ℕ → Trees → Type 0
PartsKeep k n d ts = (most_operand k k ts ≤ n) × AreShallow ts × (deepest ts ≤ d)

-- the operands of an operator
abbrev pub OperandsKeep : Primitive → ℕ → ℕ → Trees → Type 0
OperandsKeep o n d ts = (below_of o + most_operand (left_context o) (right_context o) ts ≤ n) × OfBinary (is_binary o) (LeftShallow ts) × AreShallow ts × (deepest ts ≤ d)

abbrev pub BindingsKeep : ℕ → ℕ → Binds → Type 0
BindingsKeep n d bs = (most_bind bs ≤ n) × AreShallowBinds bs × (deepest_bind bs ≤ d)

abbrev pub ArmsKeep : ℕ → ℕ → Arms → Type 0
ArmsKeep n d arms = (most_arm arms ≤ n) × AreShallowArms arms × (deepest_arm arms ≤ d)
