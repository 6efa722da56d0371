-- The parts of an expression, and what it adds by itself to the counts of rule E16.
use Rattle.std.specs.Prelude.{ℕ, ◌+◌, ◌*◌, List, [], ◌∷◌, ◌++◌, map, Option, None, nat_le}
use denote.Ref.{Bor}
use Rattle.safl_word.specs.declared.fault.Fault.{Fault}
use Rattle.safl_word.specs.declared.fault.Rule.TheVariants as rules
use Rattle.safl_tree.specs.Tree.{Tree, Number, Sized, Variable, If, Let, Cases, Op, Call, Trees, no_tree, a_tree, Binds, no_bind, a_bind, Arms, default_arm, an_arm}
use Rattle.safl_tree.specs.Shown.{shown_tree}
use Rattle.safl_tree.specs.declared.tree.Expr.{Expr}
use Rattle.safl_tree.specs.declared.tree.Bind.{Bind}
use Rattle.safl_tree.specs.declared.tree.Arm.{Arm}
use Rattle.safl_term.specs.Readiness.{or_else}
use Rattle.safl_word.specs.Limits.{bindings_max, sites_max, nodes_max}
use Rattle.safl_typing.specs.Heads.{Known, callee, is_site}
use Rattle.safl_typing.specs.Rewriting.{rewritten, rewritten_binds, nodes, excess, placed}
use Rattle.safl_typing.specs.Walk.{fault_with, needs}

-- the expressions of a list of operands or arguments
abbrev pub trees_in : Trees → List Tree
trees_in no_tree = []
trees_in (a_tree t ts) = t ∷ trees_in ts

abbrev pub values_in : Binds → List Tree
values_in no_bind = []
values_in (a_bind p x w t bs) = t ∷ values_in bs

-- the label and the value of each arm, and then the default
abbrev pub arms_in : Arms → List Tree
arms_in (default_arm t) = t ∷ []
arms_in (an_arm l t arms) = l ∷ (t ∷ arms_in arms)

-- the parts of an expression, in the order of the text
abbrev pub parts : Tree → List Tree
parts (Number p n) = []
parts (Sized p w n) = []
parts (Variable p x) = []
parts (If p c a b) = c ∷ (a ∷ (b ∷ []))
parts (Let p bs t) = values_in bs ++ t ∷ []
parts (Cases p e arms) = e ∷ arms_in arms
parts (Op p o ts) = trees_in ts
parts (Call p f ts) = trees_in ts

abbrev pub arm_count : Arms → ℕ
arm_count (default_arm t) = 0
arm_count (an_arm l t arms) = 1 + arm_count arms

-- the nodes of the expression itself, without its parts. A case counts as a let, and for each labelled arm an if, a test and the
-- test's variable
abbrev pub own_nodes : Tree → ℕ
own_nodes (Number p n) = 1
own_nodes (Sized p w n) = 1
own_nodes (Variable p x) = 1
own_nodes (If p c a b) = 1
own_nodes (Let p bs t) = 1
own_nodes (Cases p e arms) = 1 + 3 * arm_count arms
own_nodes (Op p o ts) = 1
own_nodes (Call p f ts) = 1

abbrev pub own_sites : Known → Tree → ℕ
own_sites k (Number p n) = 0
own_sites k (Sized p w n) = 0
own_sites k (Variable p x) = 0
own_sites k (If p c a b) = 0
own_sites k (Let p bs t) = 0
own_sites k (Cases p e arms) = 0
own_sites k (Op p o ts) = 0
own_sites k (Call p f ts) = is_site (callee k f)

-- the place of the first binding beyond the limit, if the expression itself is a let with too many
abbrev pub own_long_let : Tree → Option ℕ
own_long_let (Number p n) = None
own_long_let (Sized p w n) = None
own_long_let (Variable p x) = None
own_long_let (If p c a b) = None
own_long_let (Let p bs t) = excess bindings_max (map (λ x. x.place) (placed (rewritten_binds bs)))
own_long_let (Cases p e arms) = None
own_long_let (Op p o ts) = None
own_long_let (Call p f ts) = None

-- the expressions on a stack, from its top, which is the end of the list, down
abbrev pub pending : List (Bor Expr) → List Tree
pending [] = []
pending (e ∷ es) = pending es ++ shown_tree e.now ∷ []

-- the values of bindings; the labels and values of arms
abbrev pub values_of : List Bind → List Tree
values_of bs = map (λ b. shown_tree b.value) bs

abbrev pub arms_of : List Arm → List Tree
arms_of [] = []
arms_of (a ∷ arms) = shown_tree a.label ∷ (shown_tree a.value ∷ arms_of arms)

-- the number of nodes of several expressions after each `case` is rewritten
abbrev pub total_nodes : List Tree → ℕ
total_nodes [] = 0
total_nodes (t ∷ ts) = nodes (rewritten t) + total_nodes ts

-- E16 at this place, if there are too many sites or too many nodes up to it
abbrev pub sum_fault : (place in_all nodes_all : ℕ) → Option Fault
sum_fault place in_all nodes_all =
    or_else (needs (nat_le in_all sites_max) (fault_with rules.E16 place 4 sites_max))
    (needs (nat_le nodes_all nodes_max) (fault_with rules.E16 place 5 nodes_max))
