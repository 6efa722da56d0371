-- How deep the tree of a value with a `Vec` is.
use Rattle.std.proofs.Common.{◌≡◌, ℕ, ◌+◌, max, min, List, [], ◌∷◌, ◌++◌, length, Vec, Box, Global, sym, ap, ◌∙◌, arith}
use Rattle.std.proofs.lemmas.List.{length-map, map_push}
use Rattle.safl_word.specs.declared.primitive.Primitive.{Primitive}
use Rattle.safl_tree.specs.declared.tree.Expr.{Expr}
use Rattle.safl_tree.specs.declared.tree.Bind.{Bind}
use Rattle.safl_tree.specs.declared.tree.Arm.{Arm}
use Rattle.safl_tree.specs.declared.tree.Node.TheVariants.{Op, Call, Let, Case}
use Rattle.safl_tree.specs.Tree.{Tree, Bound, Labelled, trees_of, binds_of, arms_of, depth, deepest, deepest_bind, deepest_arm}
use Rattle.safl_tree.specs.Shown.{shown_node, shown_tree, shown_trees, shown_bind, shown_bounds, shown_arm, shown_labelled}
use Rattle.safl_parse.specs.Parts.{labelled_depth}
use Rattle.safl_tree.proofs.ShownTrees.{op_shows, call_shows, let_shows, case_shows}

-- ---- one more at the end

deepest_end : (ts : List Tree) (t : Tree) → deepest (trees_of (ts ++ t ∷ [])) ≡ max (deepest (trees_of ts)) (depth t)
deepest_end [] t = omega arith
deepest_end (x ∷ ts) t = let h = deepest_end ts t in omega (arith, h)

deepest_bind_end : (ts : List Bound) (t : Bound) → deepest_bind (binds_of (ts ++ t ∷ [])) ≡ max (deepest_bind (binds_of ts)) (depth t.value)
deepest_bind_end [] t = omega arith
deepest_bind_end (x ∷ ts) t = let h = deepest_bind_end ts t in omega (arith, h)

labelled_end : (ts : List Labelled) (t : Labelled) → labelled_depth (ts ++ t ∷ []) ≡ max (labelled_depth ts) (length ts + 1 + max 2 (depth t.value))
labelled_end [] t = omega arith
labelled_end (x ∷ ts) t = let h = labelled_end ts t in omega (arith, h)

with_default : (ts : List Labelled) (t : Tree) → deepest_arm (arms_of ts t) ≡ max (labelled_depth ts) (length ts + depth t)
with_default [] t = omega arith
with_default (x ∷ ts) t = let h = with_default ts t in omega (arith, h)

-- ---- depths up to 100

pub cap_op : (o : Primitive) (v : Vec Expr Global) (p d r : ℕ) → d ≡ min (deepest (trees_of (shown_trees v.items))) 100 → r ≡ min (1 + d) 100 → r ≡ min (depth (shown_node (Op o v) p)) 100
cap_op o v p d r h k = let e : r ≡ min (1 + deepest (trees_of (shown_trees v.items))) 100 = omega arith in e ∙ ap (λ (t : Tree). min (depth t) 100) (sym (op_shows o v p))

pub cap_call : (f : List ℕ) (v : Vec Expr Global) (p d r : ℕ) → d ≡ min (deepest (trees_of (shown_trees v.items))) 100 → r ≡ min (1 + d) 100 → r ≡ min (depth (shown_node (Call f v) p)) 100
cap_call f v p d r h k = let e : r ≡ min (1 + deepest (trees_of (shown_trees v.items))) 100 = omega arith in e ∙ ap (λ (t : Tree). min (depth t) 100) (sym (call_shows f v p))

pub cap_end : (es : List Expr) (e : Expr) (d k r : ℕ) → d ≡ min (deepest (trees_of (shown_trees es))) 100 → k ≡ min (depth (shown_tree e)) 100 → r ≡
    max d k → r ≡ min (deepest (trees_of (shown_trees (es ++ e ∷ [])))) 100
cap_end es e d k r h i j =
    let m = deepest_end (shown_trees es) (shown_tree e) in
    let n : r ≡ min (max (deepest (trees_of (shown_trees es))) (depth (shown_tree e))) 100 = omega arith in
    n ∙ ap (λ (x : ℕ). min x 100) (sym m) ∙ ap (λ (ts : List Tree). min (deepest (trees_of ts)) 100) (sym (map_push shown_tree es e))

pub cap_bind_end : (bs : List Bind) (b : Bind) (d k r : ℕ) → d ≡ min (deepest_bind (binds_of (shown_bounds bs))) 100 → k ≡ min
    (depth (shown_tree b.value)) 100 → r ≡ max d k → r ≡ min (deepest_bind (binds_of (shown_bounds (bs ++ b ∷ [])))) 100
cap_bind_end bs b d k r h i j =
    let m = deepest_bind_end (shown_bounds bs) (shown_bind b) in
    let n : r ≡ min (max (deepest_bind (binds_of (shown_bounds bs))) (depth (shown_tree b.value))) 100 = omega arith in
    n ∙ ap (λ (x : ℕ). min x 100) (sym m) ∙ ap (λ (ts : List Bound). min (deepest_bind (binds_of ts)) 100) (sym (map_push shown_bind bs b))

pub cap_arm_end : (arms : List Arm) (a : Arm) (n d k j r : ℕ) → n ≡ length arms → d ≡ min (labelled_depth (shown_labelled arms)) 100 → k ≡ min
    (depth (shown_tree a.value)) 100 → j ≡ min (n + 1 + max 2 k) 100 → r ≡ max d j → r ≡ min (labelled_depth (shown_labelled (arms ++ a ∷ []))) 100
cap_arm_end arms a n d k j r l h i g e =
    let m = labelled_end (shown_labelled arms) (shown_arm a) in
    let s = length-map arms shown_arm in
    let f : r ≡ min (max (labelled_depth (shown_labelled arms)) (length (shown_labelled arms) + 1 + max 2 (depth (shown_tree a.value)))) 100 = omega (arith, s) in
    f ∙ ap (λ (x : ℕ). min x 100) (sym m) ∙ ap (λ (ts : List Labelled). min (labelled_depth ts) 100) (sym (map_push shown_arm arms a))

pub cap_default : (arms : List Arm) (t : Expr) (n d k j r : ℕ) → n ≡ length arms → d ≡ min (labelled_depth (shown_labelled arms)) 100 → k ≡ min
    (depth (shown_tree t)) 100 → j ≡ min (n + k) 100 → r ≡ max d j → r ≡ min (deepest_arm (arms_of (shown_labelled arms) (shown_tree t))) 100
cap_default arms t n d k j r l h i g e =
    let m = with_default (shown_labelled arms) (shown_tree t) in
    let s = length-map arms shown_arm in
    let f : r ≡ min (max (labelled_depth (shown_labelled arms)) (length (shown_labelled arms) + depth (shown_tree t))) 100 = omega (arith, s) in
    f ∙ ap (λ (x : ℕ). min x 100) (sym m)

pub cap_let : (v : Vec Bind Global) (b : Box Expr Global) (p d k r : ℕ) → d ≡ min (deepest_bind (binds_of (shown_bounds v.items))) 100 → k ≡ min
    (depth (shown_tree b.value)) 100 → r ≡ min (1 + max d k) 100 → r ≡ min (depth (shown_node (Let v b) p)) 100
cap_let v b p d k r h i j = let e : r ≡ min (1 + max (deepest_bind (binds_of (shown_bounds v.items))) (depth (shown_tree b.value))) 100 = omega arith
    in e ∙ ap (λ (t : Tree). min (depth t) 100) (sym (let_shows v b p))

pub cap_case : (e : Box Expr Global) (v : Vec Arm Global) (t : Box Expr Global) (p d k r : ℕ) → d ≡ min (depth (shown_tree e.value)) 100 → k ≡ min
    (deepest_arm (arms_of (shown_labelled v.items) (shown_tree t.value))) 100 → r ≡ min (1 + max d k) 100 → r ≡ min (depth (shown_node (Case e v t) p)) 100
cap_case e v t p d k r h i j = let f : r ≡ min (1 + max (depth (shown_tree e.value))
    (deepest_arm (arms_of (shown_labelled v.items) (shown_tree t.value)))) 100 = omega arith in f ∙ ap (λ (x : Tree). min (depth x) 100) (sym (case_shows e v t p))
