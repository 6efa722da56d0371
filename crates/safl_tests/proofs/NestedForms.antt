-- Trees that tests build.
use Rattle.std.proofs.Common.{◌≡◌, ℕ, List, [], ◌∷◌, Vec, Global, refl, sym, ap, subst, ◌∙◌}
use Rattle.safl_word.specs.declared.primitive.Primitive.TheVariants as prims
use Rattle.safl_tree.specs.Tree.{Tree, Op, trees_of}
use Rattle.safl_tree.specs.Shown.{shown_tree, shown_node, shown_trees}
use Rattle.safl_tree.specs.Printable.{IsFormed}
use Rattle.safl_tree.specs.declared.tree.Expr.{Expr}
use Rattle.safl_tree.specs.declared.tree.Node.TheVariants as nodes
use Rattle.safl_tree.proofs.ShownTrees.{op_shows}

pub formed_not : (es : Vec Expr Global) (p : ℕ) (e : Expr) → es.items ≡ e ∷ [] → IsFormed (shown_tree e) → IsFormed (shown_node (nodes.Op prims.Not es) p)
formed_not es p e q h =
    let shown : shown_node (nodes.Op prims.Not es) p ≡ Op p prims.Not (trees_of (shown_tree e ∷ [])) = op_shows prims.Not es p ∙ ap (λ (l : List Expr). Op p prims.Not (trees_of (shown_trees l))) q in
    let whole : IsFormed (Op p prims.Not (trees_of (shown_tree e ∷ []))) = (refl, tt, (h, tt)) in
    subst (λ (t : Tree). IsFormed t) (sym shown) whole
