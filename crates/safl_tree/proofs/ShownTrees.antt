-- The plain tree of an expression, by its lists.
use Rattle.safl_tree.proofs.Common.{Arm, Bind, Expr, Primitive}
use Rattle.std.proofs.Common.{◌≡◌, ℕ, List, Vec, Box, Global, refl, ap, ◌∙◌}
use mathlib.Core.Former.{Count}
use Rattle.safl_tree.specs.declared.tree.Node.{Node, Row_of-Expr, end_of-Expr, more_of-Expr, items-the_row-Expr, items_hidden-the_row-Expr-2}
use Rattle.safl_tree.specs.declared.tree.Node.{Row_of-Bind, end_of-Bind, more_of-Bind, items-the_row-Bind, items_hidden-the_row-Bind-0, Row_of-Arm}
use Rattle.safl_tree.specs.declared.tree.Node.{end_of-Arm, more_of-Arm, items-the_row-Arm, items_hidden-the_row-Arm-1}
use Rattle.safl_tree.specs.declared.tree.Node.TheVariants as nodes
use Rattle.safl_tree.specs.declared.tree.Node.TheVariants.{Num, Sized, Var, If', Op', Call', Let', Case, Case'}
use Rattle.safl_tree.specs.Tree.{Tree, a_tree, Binds, a_bind, an_arm, Op, Call, Let, Cases, trees_of, binds_of, arms_of, place_of}
use Rattle.safl_tree.specs.Shown.{shown_node, shown_row, shown_binds, shown_arms, shown_tree, shown_trees, shown_bounds, shown_labelled}

row_shows : (n : Count) (row : Row_of-Expr n) → shown_row row ≡ trees_of (shown_trees (items-the_row-Expr n row))
row_shows n end_of-Expr = refl
row_shows n (more_of-Expr a x r) = ap (a_tree (shown_node x a)) (row_shows _ r)

binds_show : (n : Count) (row : Row_of-Bind n) → shown_binds row ≡ binds_of (shown_bounds (items-the_row-Bind n row))
binds_show n end_of-Bind = refl
binds_show n (more_of-Bind a x w b v r) = ap (a_bind a x w (shown_node v b)) (binds_show _ r)

arms_show : (n : Count) (row : Row_of-Arm n) (t : Tree) → shown_arms row t ≡ arms_of (shown_labelled (items-the_row-Arm n row)) t
arms_show n end_of-Arm t = refl
arms_show n (more_of-Arm a x b v r) t = ap (an_arm (shown_node x a) (shown_node v b)) (arms_show _ r t)

abbrev row_of : Node → (n : Count) × Row_of-Expr n
row_of (Op' o s r) = (_, r)
row_of (Call' f s r) = (_, r)
row_of _ = (_, end_of-Expr)

abbrev binds_in : Node → (n : Count) × Row_of-Bind n
binds_in (Let' s r q a n) = (_, r)
binds_in _ = (_, end_of-Bind)

abbrev arms_in : Node → (n : Count) × Row_of-Arm n
arms_in (Case' p a n s r q b m) = (_, r)
arms_in _ = (_, end_of-Arm)

pub op_shows : (o : Primitive) (v : Vec Expr Global) (p : ℕ) → shown_node (nodes.Op o v) p ≡ Op p o (trees_of (shown_trees v.items))
op_shows o v p =
    let row = row_of (nodes.Op o v) in
    ap (Op p o) (row_shows row.0 row.1 ∙ ap (λ (es : List Expr). trees_of (shown_trees es)) (items_hidden-the_row-Expr-2 v))

pub call_shows : (f : List ℕ) (v : Vec Expr Global) (p : ℕ) → shown_node (nodes.Call f v) p ≡ Call p f (trees_of (shown_trees v.items))
call_shows f v p =
    let row = row_of (nodes.Call f v) in
    ap (Call p f) (row_shows row.0 row.1 ∙ ap (λ (es : List Expr). trees_of (shown_trees es)) (items_hidden-the_row-Expr-2 v))

pub let_shows : (v : Vec Bind Global) (b : Box Expr Global) (p : ℕ) → shown_node (nodes.Let v b) p ≡ Let p (binds_of (shown_bounds v.items)) (shown_tree b.value)
let_shows v b p =
    let row = binds_in (nodes.Let v b) in
    ap (λ (bs : Binds). Let p bs (shown_tree b.value)) (binds_show row.0 row.1 ∙ ap (λ (es : List Bind). binds_of (shown_bounds es)) (items_hidden-the_row-Bind-0 v))

pub case_shows : (e : Box Expr Global) (v : Vec Arm Global) (d : Box Expr Global) (p : ℕ) → shown_node (Case e v d) p ≡ Cases p (shown_tree e.value)
    (arms_of (shown_labelled v.items) (shown_tree d.value))
case_shows e v d p =
    let row = arms_in (Case e v d) in
    ap (Cases p (shown_tree e.value)) (arms_show row.0 row.1 (shown_tree d.value) ∙ ap (λ (es : List Arm). arms_of (shown_labelled es) (shown_tree d.value)) (items_hidden-the_row-Arm-1 v))

-- an expression shows its place
pub shown_place : (n : Node) (p : ℕ) → place_of (shown_node n p) ≡ p
shown_place (Num n) p = refl
shown_place (Sized w n) p = refl
shown_place (Var x) p = refl
shown_place (If' p1 a1 n1 p2 a2 n2 p3 a3 n3) p = refl
shown_place (Let' s r p1 a1 n1) p = refl
shown_place (Case' p1 a1 n1 s r p2 a2 n2) p = refl
shown_place (Op' o s r) p = refl
shown_place (Call' f s r) p = refl
