-- The plain term that a node is the top of.
use Rattle.safl_term.specs.Terms as plain
use Rattle.safl_term.specs.Tree.{shown_term, shown_terms}
use Rattle.safl_term.specs.declared.node.Node.{Node}
use Rattle.safl_term.specs.declared.node.Node.TheVariants as nodes

abbrev pub shown_node : Node → plain.Term
shown_node (nodes.Const w) = plain.Const w
shown_node (nodes.Var i) = plain.Var i
shown_node (nodes.If c a b) = plain.If (shown_term c.now) (shown_term a.now) (shown_term b.now)
shown_node (nodes.Let n ts b) = plain.Let (shown_terms ts.now) (shown_term b.now)
shown_node (nodes.Op o ts) = plain.Op o (shown_terms ts.now)
shown_node (nodes.Call f k ts) = plain.Call f k (shown_terms ts.now)
shown_node (nodes.Loop h ts) = plain.Loop h (shown_terms ts.now)
