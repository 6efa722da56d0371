-- The plain trees of the trees of the code.
use Rattle.std.specs.Prelude.{ℕ, List, map}
use Rattle.safl_tree.specs.declared.tree.Expr.{Expr}
use Rattle.safl_tree.specs.declared.tree.Node.{Node}
use Rattle.safl_tree.specs.declared.tree.Bind.{Bind}
use Rattle.safl_tree.specs.declared.tree.Arm.{Arm}
use Rattle.safl_tree.specs.declared.tree.Param.{Param}
use Rattle.safl_tree.specs.declared.tree.Def.{Def}
use Rattle.safl_tree.specs.declared.tree.Program.{Program}
use Rattle.safl_tree.specs.declared.tree.Node.TheVariants as nodes
use Rattle.safl_tree.specs.declared.tree.Node.{Row_of-Expr, end_of-Expr, more_of-Expr, Row_of-Bind, end_of-Bind, more_of-Bind, Row_of-Arm, end_of-Arm, more_of-Arm}
use Rattle.safl_tree.specs.Tree.{Tree, Number, Sized, Variable, If, Let, Cases, Op, Call, Trees, no_tree, a_tree, Binds, no_bind, a_bind, Arms, default_arm, an_arm, Bound, Labelled, Parameter, Definition}

abbrev mutual
  -- the tree of a node at a place
  pub shown_node : Node → ℕ → Tree
  shown_node (nodes.Num n) p = Number p n
  shown_node (nodes.Sized w n) p = Sized p w n
  shown_node (nodes.Var x) p = Variable p x
  shown_node (nodes.If' p1 a1 n1 p2 a2 n2 p3 a3 n3) p = If p (shown_node n1 a1) (shown_node n2 a2) (shown_node n3 a3)
  shown_node (nodes.Let' s r p1 a1 n1) p = Let p (shown_binds r) (shown_node n1 a1)
  shown_node (nodes.Case' p1 a1 n1 s r p2 a2 n2) p = Cases p (shown_node n1 a1) (shown_arms r (shown_node n2 a2))
  shown_node (nodes.Op' o s r) p = Op p o (shown_row r)
  shown_node (nodes.Call' f s r) p = Call p f (shown_row r)

  pub shown_row : {m : _} → Row_of-Expr m → Trees
  shown_row end_of-Expr = no_tree
  shown_row (more_of-Expr a n r) = a_tree (shown_node n a) (shown_row r)

  pub shown_binds : {m : _} → Row_of-Bind m → Binds
  shown_binds end_of-Bind = no_bind
  shown_binds (more_of-Bind a x w b n r) = a_bind a x w (shown_node n b) (shown_binds r)

  pub shown_arms : {m : _} → Row_of-Arm m → Tree → Arms
  shown_arms end_of-Arm other = default_arm other
  shown_arms (more_of-Arm a n b v r) other = an_arm (shown_node n a) (shown_node v b) (shown_arms r other)

abbrev pub shown_tree : Expr → Tree
shown_tree e = shown_node e.node e.place

abbrev pub shown_trees : List Expr → List Tree
shown_trees es = map shown_tree es

abbrev pub shown_bind : Bind → Bound
shown_bind b = record { place = b.place; name = b.name; width = b.width; value = shown_tree b.value }

abbrev pub shown_bounds : List Bind → List Bound
shown_bounds bs = map shown_bind bs

abbrev pub shown_arm : Arm → Labelled
shown_arm a = record { label = shown_tree a.label; value = shown_tree a.value }

abbrev pub shown_labelled : List Arm → List Labelled
shown_labelled arms = map shown_arm arms

abbrev pub shown_parameter : Param → Parameter
shown_parameter p = record { place = p.place; name = p.name; width = p.width }

abbrev pub shown_parameters : List Param → List Parameter
shown_parameters ps = map shown_parameter ps

abbrev pub shown_definition : Def → Definition
shown_definition d = record { joined = d.joined; place = d.place; name = d.name; params = shown_parameters d.params.items; width = d.width; body = shown_tree d.body }

abbrev pub shown_definitions : List Def → List Definition
shown_definitions ds = map shown_definition ds

abbrev pub shown_program : Program → List Definition
shown_program p = shown_definitions p.defs.items
