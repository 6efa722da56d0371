-- Rewriting lists of expressions, one by one.
use Rattle.safl_typing.proofs.Common.{Bound, Primitive, shown_bindings, shown_expression, shown_expressions, slice_get_read}
use Rattle.std.proofs.Common.{◌≡◌, ℕ, zero, suc, ◌+◌, ◌-◌, ◌<◌, ◌≤◌, arith, drop, get_or, drop-cons, List, [], ◌∷◌, ◌++◌, length, take, Some, None}
use Rattle.std.proofs.Common.{slice_get, refl, sym, ap, ◌∙◌, add-one}
use Rattle.safl_tree.specs.declared.tree.Expr.{Expr}
use Rattle.safl_tree.specs.declared.tree.Bind.{Bind}
use Rattle.safl_tree.specs.declared.tree.Arm.{Arm}
use Rattle.safl_tree.specs.Tree as source
use Rattle.safl_tree.specs.Tree.{Tree, Trees, Binds, Arms, trees_of, binds_of, arms_of, place_of}
use Rattle.safl_tree.specs.Shown.{shown_tree, shown_trees, shown_bounds, shown_labelled}
use Rattle.safl_typing.specs.declared.expression.Expression as code
use Rattle.safl_typing.specs.Rewriting.{Expression, If, Let, Op, Call, Expressions, no_expression, an_expression, Bindings, no_binding, a_binding}
use Rattle.safl_typing.specs.Rewriting.{rewritten, rewritten_all, rewritten_binds, rewritten_arms, scrutinee, test_at}
use Rattle.safl_tree.proofs.ShownTrees.{shown_place}

-- one more at the end
abbrev pub more : Expressions → Expression → Expressions
more no_expression x = an_expression x no_expression
more (an_expression y ys) x = an_expression y (more ys x)

pub shown_end : (xs : List code.Expression) (x : code.Expression) → shown_expressions (xs ++ x ∷ []) ≡ more (shown_expressions xs) (shown_expression x)
shown_end [] x = refl
shown_end (y ∷ ys) x = ap (an_expression (shown_expression y)) (shown_end ys x)

all_next : (es : List Expr) (i : ℕ) (e : Expr) → slice_get es i ≡ Some e → rewritten_all (trees_of (shown_trees (take (suc i) es))) ≡ more
    (rewritten_all (trees_of (shown_trees (take i es)))) (rewritten (shown_tree e))
all_next [] i e h = absurd (cc)
all_next (y ∷ ys) zero e h = let g : y ≡ e = cc in ap (λ (z : Expr). an_expression (rewritten (shown_tree z)) no_expression) g
all_next (y ∷ ys) (suc i) e h = ap (an_expression (rewritten (shown_tree y))) (all_next ys i e h)

pub all_more : (es : List Expr) (i : ℕ) (e : Expr) → slice_get es i ≡ Some e → rewritten_all (trees_of (shown_trees (take (i + 1) es))) ≡ more
    (rewritten_all (trees_of (shown_trees (take i es)))) (rewritten (shown_tree e))
all_more es i e h = ap (λ (k : ℕ). rewritten_all (trees_of (shown_trees (take k es)))) (add-one i) ∙ all_next es i e h

-- one more binding at the end
abbrev pub more_bound : Bindings → Bindings → Bindings
more_bound no_binding x = x
more_bound (a_binding p n w e bs) x = a_binding p n w e (more_bound bs x)

abbrev pub shown_binding : Bound → Bindings
shown_binding b = a_binding b.place b.name b.width (shown_expression b.value) no_binding

abbrev pub shown_bind : Bind → Bindings
shown_bind b = a_binding b.place b.name b.width (rewritten (shown_tree b.value)) no_binding

bound_end : (xs : List Bound) (x : Bound) → shown_bindings (xs ++ x ∷ []) ≡ more_bound (shown_bindings xs) (shown_binding x)
bound_end [] x = refl
bound_end (y ∷ ys) x = ap (a_binding y.place y.name y.width (shown_expression y.value)) (bound_end ys x)

binds_next : (bs : List Bind) (i : ℕ) (b : Bind) → slice_get bs i ≡ Some b → rewritten_binds (binds_of (shown_bounds (take (suc i) bs))) ≡ more_bound
    (rewritten_binds (binds_of (shown_bounds (take i bs)))) (shown_bind b)
binds_next [] i b h = absurd (cc)
binds_next (y ∷ ys) zero b h = let g : y ≡ b = cc in ap shown_bind g
binds_next (y ∷ ys) (suc i) b h = ap (a_binding y.place y.name y.width (rewritten (shown_tree y.value))) (binds_next ys i b h)

binds_more : (bs : List Bind) (i : ℕ) (b : Bind) → slice_get bs i ≡ Some b → rewritten_binds (binds_of (shown_bounds (take (i + 1) bs))) ≡ more_bound
    (rewritten_binds (binds_of (shown_bounds (take i bs)))) (shown_bind b)
binds_more bs i b h = ap (λ (k : ℕ). rewritten_binds (binds_of (shown_bounds (take k bs)))) (add-one i) ∙ binds_next bs i b h

-- ---- the kinds of expressions that have lists

module _ {t : Tree} (p : ℕ) where
  pub let_rewrites : {bs : Binds} {b : Tree} {xs : Bindings} {x : Expression} → t ≡ source.Let p bs b → xs ≡ rewritten_binds bs → x ≡ rewritten b → Let p xs x ≡ rewritten t
  let_rewrites {bs} {b} {xs} {x} is h k = ap (λ (z : Bindings). Let p z x) h ∙ ap (Let p (rewritten_binds bs)) k ∙ sym (ap rewritten is)

  pub case_rewrites : {e : Tree} {arms : Arms} {v b : Expression} → t ≡ source.Cases p e arms → v ≡ rewritten e → b ≡ rewritten_arms p arms
      → Let p (a_binding p scrutinee None v no_binding) b ≡ rewritten t
  case_rewrites {e} {arms} {v} {b} is h k =
      ap (λ (z : Expression). Let p (a_binding p scrutinee None z no_binding) b) h
      ∙ ap (Let p (a_binding p scrutinee None (rewritten e) no_binding)) k ∙ sym (ap rewritten is)

  pub op_rewrites : {o : Primitive} {ts : Trees} {es : Expressions} → t ≡ source.Op p o ts → es ≡ rewritten_all ts → Op p o es ≡ rewritten t
  op_rewrites {o} {ts} {es} is h = ap (Op p o) h ∙ sym (ap rewritten is)

  pub call_rewrites : {f g : List ℕ} {ts : Trees} {es : Expressions} → t ≡ source.Call p f ts → g ≡ f → es ≡ rewritten_all ts → Call p g es ≡ rewritten t
  call_rewrites {f} {g} {ts} {es} is i h = ap (λ (z : List ℕ). Call p z es) i ∙ ap (Call p f) h ∙ sym (ap rewritten is)

pub arm_rewrites : (p : ℕ) (a : Arm) (label value rest : code.Expression) (arms : List Arm) (t : Tree)
    → shown_expression label ≡ rewritten (shown_tree a.label) → shown_expression value ≡ rewritten (shown_tree a.value) → shown_expression rest ≡ rewritten_arms p (arms_of (shown_labelled arms) t)
    → If p (test_at a.label.place (shown_expression label)) (shown_expression value) (shown_expression rest) ≡ rewritten_arms p (arms_of (shown_labelled (a ∷ arms)) t)
arm_rewrites p a label value rest arms t l v r =
    ap (λ (z : Expression). If p (test_at a.label.place z) (shown_expression value) (shown_expression rest)) l
    ∙ ap (λ (k : ℕ). If p (test_at k (rewritten (shown_tree a.label))) (shown_expression value) (shown_expression rest)) (sym (shown_place a.label.node a.label.place))
    ∙ ap (λ (z : Expression). If p (test_at (place_of (shown_tree a.label)) (rewritten (shown_tree a.label))) z (shown_expression rest)) v
    ∙ ap (λ (z : Expression). If p (test_at (place_of (shown_tree a.label)) (rewritten (shown_tree a.label))) (rewritten (shown_tree a.value)) z) r

-- ---- loops

pub all_push : (es : List Expr) (i : ℕ) (e : Expr) (xs ys : List code.Expression) (x : code.Expression) → i < length es → e ≡ get_or es i e → ys ≡ xs ++ x ∷ []
    → shown_expressions xs ≡ rewritten_all (trees_of (shown_trees (take i es))) → shown_expression x ≡ rewritten (shown_tree e) → shown_expressions ys
    ≡ rewritten_all (trees_of (shown_trees (take (i + 1) es)))
all_push es i e xs ys x lt is q h r =
    ap shown_expressions q ∙ shown_end xs x ∙ ap (λ (z : Expressions). more z (shown_expression x)) h ∙ ap
    (more (rewritten_all (trees_of (shown_trees (take i es))))) r ∙ sym (all_more es i e (slice_get_read es (length es) i e refl lt is))

pub binds_push : (bs : List Bind) (i : ℕ) (b : Bind) (xs ys : List Bound) (x : Bound) (name : List ℕ) → i < length bs → b ≡ get_or bs i b → ys ≡ xs ++ x ∷ []
    → shown_bindings xs ≡ rewritten_binds (binds_of (shown_bounds (take i bs))) → x.place ≡ b.place → x.name ≡ b.name → x.width ≡ b.width → shown_expression x.value ≡ rewritten (shown_tree b.value)
    → shown_bindings ys ≡ rewritten_binds (binds_of (shown_bounds (take (i + 1) bs)))
binds_push bs i b xs ys x name lt is q h ep en ew r =
    let s : shown_binding x ≡ shown_bind b = cc in
    ap shown_bindings q ∙ bound_end xs x ∙ ap (λ (z : Bindings). more_bound z (shown_binding x)) h ∙ ap
    (more_bound (rewritten_binds (binds_of (shown_bounds (take i bs))))) s ∙ sym (binds_more bs i b (slice_get_read bs (length bs) i b refl lt is))

pub arms_front : (p : ℕ) (arms : List Arm) (done : ℕ) (a : Arm) (label value rest : code.Expression) (condition body : Expression) (t : Tree) → done <
    length arms → a ≡ get_or arms (length arms - 1 - done) a
    → condition ≡ test_at a.label.place (shown_expression label) → shown_expression label ≡ rewritten (shown_tree a.label) → shown_expression value ≡ rewritten (shown_tree a.value)
    → shown_expression rest ≡ rewritten_arms p (arms_of (shown_labelled (drop (length arms - done) arms)) t) → body ≡ If p condition (shown_expression value) (shown_expression rest)
    → body ≡ rewritten_arms p (arms_of (shown_labelled (drop (length arms - (done + 1)) arms)) t)
arms_front p arms done a label value rest condition body t lt is k l v r b =
    let i : ℕ = length arms - 1 - done in
    let e : length arms - (done + 1) ≡ i = omega arith in
    let s : suc i ≡ length arms - done = omega (arith, lt) in
    let d : drop i arms ≡ get_or arms i a ∷ drop (suc i) arms = drop-cons arms i a (omega (arith, lt)) in
    let f : drop (length arms - (done + 1)) arms ≡ a ∷ drop (length arms - done) arms =
    ap (λ (j : ℕ). drop j arms) e ∙ d ∙ ap (λ (z : Arm). z ∷ drop (suc i) arms) (sym is) ∙ ap (λ (j : ℕ). a ∷ drop j arms) s in
    b ∙ ap (λ (z : Expression). If p z (shown_expression value) (shown_expression rest)) k ∙ arm_rewrites p a label value rest (drop (length arms - done) arms) t l v r
    ∙ sym (ap (λ (z : List Arm). rewritten_arms p (arms_of (shown_labelled z) t)) f)

pub arms_whole : (p : ℕ) (arms : List Arm) (done : ℕ) (t : Tree) → length arms ≤ done → rewritten_arms p
    (arms_of (shown_labelled (drop (length arms - done) arms)) t) ≡ rewritten_arms p (arms_of (shown_labelled arms) t)
arms_whole p arms done t le = let e : length arms - done ≡ 0 = omega (arith, le) in ap (λ (j : ℕ). rewritten_arms p (arms_of (shown_labelled (drop j arms)) t)) e
