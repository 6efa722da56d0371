-- How much is left to do while an expression is taken apart.
use Rattle.safl_tree.proofs.Common.{Arm, Bind, Expr, Node, Primitive, sum_by}
use Rattle.std.proofs.Common.{◌≡◌, ℕ, ◌+◌, ◌<◌, ◌≤◌, refl, arith, List, [], ◌∷◌, Option, Vec, Box, Global, ap, subst, ◌∙◌}
use Rattle.std.proofs.lemmas.List.Sums.{sum_by-cons}
use Rattle.std.specs.Prelude.{IfSome}
use Rattle.safl_word.specs.Naturals.{work}
use Rattle.safl_tree.specs.Tree.{Tree, Op, Call, trees_of, binds_of, arms_of}
use Rattle.safl_tree.specs.Shown.{shown_tree, shown_node, shown_trees, shown_bounds, shown_labelled}
use Rattle.safl_tree.specs.Sizes.{work_at, size, size_of_trees, size_of_binds, size_of_arms, bind_size, arm_size}
use Rattle.safl_tree.specs.declared.dismantle.At.{At}
use Rattle.safl_tree.specs.declared.tree.Node.TheVariants as nodes
use Rattle.safl_tree.specs.declared.tree.Node.TheVariants.{Num, Sized, Var, If', Let', Case, Case', Op', Call'}
use Rattle.safl_tree.proofs.ShownTrees.{op_shows, call_shows, let_shows, case_shows}

size_anywhere : (n : Node) (p q : ℕ) → size (shown_node n p) ≡ size (shown_node n q)
size_anywhere (Num n) p q = refl
size_anywhere (Sized w n) p q = refl
size_anywhere (Var x) p q = refl
size_anywhere (If' p1 a1 n1 p2 a2 n2 p3 a3 n3) p q = refl
size_anywhere (Let' s r p1 a1 n1) p q = refl
size_anywhere (Case' p1 a1 n1 s r p2 a2 n2) p q = refl
size_anywhere (Op' o s r) p q = refl
size_anywhere (Call' f s r) p q = refl

some_size : (t : Tree) → 1 ≤ size t
some_size (Op p o ts) = omega arith
some_size (Call p f ts) = omega arith
some_size _ = omega arith

two : (n : Node) → ((m : ℕ) → n ≡ Num m → ⊥) → ((w m : ℕ) → n ≡ Sized w m → ⊥) → ((f : List ℕ) → n ≡ Var f → ⊥) → 2 ≤ size (shown_node n 0)
two (Num n) num sized var = absurd (num n refl)
two (Sized w n) num sized var = absurd (sized w n refl)
two (Var x) num sized var = absurd (var x refl)
two (If' p1 a1 n1 p2 a2 n2 p3 a3 n3) num sized var = omega (arith, some_size (shown_node n1 a1))
two (Let' s r p1 a1 n1) num sized var = omega (arith, some_size (shown_node n1 a1))
two (Case' p1 a1 n1 s r p2 a2 n2) num sized var = omega (arith, some_size (shown_node n1 a1))
two (Op' o s r) num sized var = omega arith
two (Call' f s r) num sized var = omega arith

-- ---- sizes by lists

trees_size : (es : List Expr) → size_of_trees (trees_of (shown_trees es)) ≡ sum_by (λ e. size (shown_tree e)) es
trees_size [] = omega arith
trees_size (e ∷ es) = omega (arith, trees_size es, sum_by-cons (λ (x : Expr). size (shown_tree x)) e es)

binds_size : (bs : List Bind) → size_of_binds (binds_of (shown_bounds bs)) ≡ sum_by bind_size bs
binds_size [] = omega arith
binds_size (b ∷ bs) = omega (arith, binds_size bs, sum_by-cons bind_size b bs)

arms_size : (arms : List Arm) (d : Expr) → size_of_arms (arms_of (shown_labelled arms) (shown_tree d)) ≡ sum_by arm_size arms + size (shown_tree d)
arms_size [] d = omega arith
arms_size (a ∷ arms) d = omega (arith, arms_size arms d, sum_by-cons arm_size a arms)

module _ (n : Node) (p : ℕ) where
  pub let_size : (v : Vec Bind Global) (b : Box Expr Global) → n ≡ nodes.Let v b → size (shown_node n p) ≡ 1 + (sum_by bind_size v.items + size (shown_tree b.value))
  let_size v b is = omega (arith, ap (λ (m : Node). size (shown_node m p)) is, ap size (let_shows v b p), binds_size v.items)

  pub case_size : (s : Box Expr Global) (v : Vec Arm Global) (d : Box Expr Global) → n ≡ Case s v d → size (shown_node n p) ≡ 1 +
      (size (shown_tree s.value) + (sum_by arm_size v.items + size (shown_tree d.value)))
  case_size s v d is = omega (arith, ap (λ (m : Node). size (shown_node m p)) is, ap size (case_shows s v d p), arms_size v.items d.value)

  pub op_size : (o : Primitive) (v : Vec Expr Global) → n ≡ nodes.Op o v → size (shown_node n p) ≡ 2 + sum_by (λ e. size (shown_tree e)) v.items
  op_size o v is = omega (arith, ap (λ (m : Node). size (shown_node m p)) is, ap size (op_shows o v p), trees_size v.items)

  pub call_size : (f : List ℕ) (v : Vec Expr Global) → n ≡ nodes.Call f v → size (shown_node n p) ≡ 2 + sum_by (λ e. size (shown_tree e)) v.items
  call_size f v is = omega (arith, ap (λ (m : Node). size (shown_node m p)) is, ap size (call_shows f v p), trees_size v.items)

-- what is no number and no variable counts for two at least
pub leaf_or_two : (e : Expr) (n : Node) (x : Expr) → n ≡ e.node → x ≡ record { place = 0; node = n } → ((m : ℕ) → n ≡ Num m → ⊥) → ((w m : ℕ) → n ≡ Sized w m → ⊥) → ((f : List ℕ) → n ≡ Var f → ⊥)
    → (size (shown_tree x) ≡ size (shown_tree e)) × (2 ≤ size (shown_tree x))
leaf_or_two e n x is q num sized var =
    let same : size (shown_tree x) ≡ size (shown_tree e) = ap (λ (y : Expr). size (shown_tree y)) q ∙ ap (λ (m : Node). size (shown_node m 0)) is ∙ size_anywhere e.node 0 e.place in
    (same, omega (arith, ap (λ (y : Expr). size (shown_tree y)) q, two n num sized var))

-- ---- less work

pub less_in : (o : Option At) (u : ℕ) {m n : ℕ} → m ≡ n → IfSome o (λ next. work_at next < work m u) → IfSome o (λ next. work_at next < work n u)
less_in o u e h = let P : ℕ → Type 0 = λ k. IfSome o (λ next. work_at next < work k u) in subst P e h

pub at_most_of : (o : Option At) {m n : ℕ} → m ≡ n → IfSome o (λ next. size (shown_tree next.here) + size (shown_tree next.above) ≤ m) → IfSome o
    (λ next. size (shown_tree next.here) + size (shown_tree next.above) ≤ n)
at_most_of o e h = let P : ℕ → Type 0 = λ k. IfSome o (λ next. size (shown_tree next.here) + size (shown_tree next.above) ≤ k) in subst P e h
