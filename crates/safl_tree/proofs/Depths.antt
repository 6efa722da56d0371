-- No expression is deeper than a bound whose text keeps the levels, and whose left operands are shallow.
use Rattle.std.proofs.Common.{◌≡◌, ℕ, suc, ◌+◌, ◌*◌, ◌≤◌, max, leb, Bool, true, false, cond, List, [], ◌∷◌, refl, arith, ◌↔◌}
use Rattle.std.specs.List.{AllByRecursion}
use Rattle.safl_word.specs.declared.primitive.Primitive.{Primitive}
use Rattle.safl_word.specs.declared.primitive.Primitive.TheVariants as prims
use Rattle.safl_tree.specs.Tree.{Definition, Tree, Number, Sized, Variable, If, Let, Cases, Op, Call, Trees, no_tree, a_tree, Binds, no_bind, a_bind}
use Rattle.safl_tree.specs.Tree.{Arms, default_arm, an_arm, depth, deepest, deepest_bind, deepest_arm}
use Rattle.safl_tree.specs.Printable.{layers_of, operator_layers, lifted, levels, most, most_operand, most_bind, most_arm, below_of, left_context, right_context}
use Rattle.safl_tree.specs.Printable.{is_binary, IsShallow, AreShallow, AreShallowBinds, AreShallowArms, OfBinary, LeftShallow, KeepsLevels}
use Rattle.safl_tree.specs.Printable.{AllKeepLevels}
use Rattle.safl_tree.specs.Keeps.{Keeps}
use Rattle.safl_tree.proofs.Operators.{own_small}

-- with n levels and k layers
abbrev bound : ℕ → ℕ → ℕ
bound n k = 100 + 9 * n + k

lift_bound : (k o n d : ℕ) → o ≤ 8 → d ≤ bound n o → d ≤ bound (lifted k o n) k
lift_bound k o n d small h = go (leb o k) refl
  where
    go : (b : Bool) → leb o k ≡ b → d ≤ bound (cond b n (suc n)) k
    go true e = let i = Rattle.std.proofs.lemmas.Bool.leb-true o k e in omega arith
    go false e = omega arith

most_bound : (a b k x y : ℕ) → x ≤ bound a k → y ≤ bound b k → max x y ≤ bound (max a b) k
most_bound a b k x y h i = omega arith

abbrev tail : Trees → Trees
tail no_tree = no_tree
tail (a_tree t ts) = ts

-- each operand is one level below the operator
inner_bound : (k n d : ℕ) → k ≤ 8 → d ≤ bound n k → 1 + d ≤ bound (1 + n) 0
inner_bound k n d small h = omega arith

-- a left operand is shallow, and the others stand at the place on the right
between_bound : (l r : ℕ) (ts : Trees) → LeftShallow ts → deepest (tail ts) ≤ bound (most_operand r r (tail ts)) r → 1 + deepest ts ≤ bound (0 + most_operand l r ts) (suc r)
between_bound l r no_tree s h = omega arith
between_bound l r (a_tree t ts) s h = omega (arith, s, h)

applied_bound : (o : Primitive) (ts : Trees) → OfBinary (is_binary o) (LeftShallow ts) → ((k : ℕ) → deepest ts ≤ bound (most_operand k k ts) k) →
    ((k : ℕ) → deepest (tail ts) ≤ bound (most_operand k k (tail ts)) k) → 1 + deepest ts ≤ bound (below_of o + most_operand (left_context o) (right_context o) ts) (operator_layers o)
applied_bound prims.Not ts s all rest = inner_bound 0 (most_operand 0 0 ts) (deepest ts) (omega arith) (all 0)
applied_bound prims.Cat ts s all rest = inner_bound 8 (most_operand 8 8 ts) (deepest ts) (omega arith) (all 8)
applied_bound (prims.Bits h l) ts s all rest = inner_bound 8 (most_operand 8 8 ts) (deepest ts) (omega arith) (all 8)
applied_bound (prims.Ext n) ts s all rest = inner_bound 8 (most_operand 8 8 ts) (deepest ts) (omega arith) (all 8)
applied_bound prims.Mul ts s all rest = between_bound 1 0 ts s (rest 0)
applied_bound prims.Add ts s all rest = between_bound 2 1 ts s (rest 1)
applied_bound prims.Sub ts s all rest = between_bound 2 1 ts s (rest 1)
applied_bound prims.Shl ts s all rest = between_bound 3 2 ts s (rest 2)
applied_bound prims.Shr ts s all rest = between_bound 3 2 ts s (rest 2)
applied_bound prims.And ts s all rest = between_bound 5 4 ts s (rest 4)
applied_bound prims.Xor ts s all rest = between_bound 6 5 ts s (rest 5)
applied_bound prims.Or ts s all rest = between_bound 7 6 ts s (rest 6)
applied_bound prims.Eq ts s all rest = between_bound 3 3 ts s (rest 3)
applied_bound prims.Ne ts s all rest = between_bound 3 3 ts s (rest 3)
applied_bound prims.Lt ts s all rest = between_bound 3 3 ts s (rest 3)
applied_bound prims.Le ts s all rest = between_bound 3 3 ts s (rest 3)
applied_bound prims.Gt ts s all rest = between_bound 3 3 ts s (rest 3)
applied_bound prims.Ge ts s all rest = between_bound 3 3 ts s (rest 3)

mutual
  deep : (t : Tree) → IsShallow t → depth t ≤ bound (levels t) (layers_of t)
  deep (Number p n) s = omega arith
  deep (Sized p w n) s = omega arith
  deep (Variable p x) s = omega arith
  deep (If p c a b) s = let h = deep c s.0 in let i = deep a s.1 in let j = deep b s.2 in omega (arith, h, i, j, own_small c, own_small a, own_small b)
  deep (Let p bs t) s = let h = deep_binds bs s.0 in let i = deep t s.1 in omega (arith, h, i, own_small t)
  deep (Cases p e arms) s = let h = deep e s.0 in let i = deep_arms arms s.1 in omega (arith, h, i, own_small e)
  deep (Op p o ts) s = applied_bound o ts s.0 (λ k. deep_operands k ts s.1) (λ k. deep_tail k ts s.1)
  deep (Call p f ts) s = let h = deep_all ts s in omega (arith, h)

  deep_all : (ts : Trees) → AreShallow ts → deepest ts ≤ bound (most ts) 8
  deep_all no_tree s = omega arith
  deep_all (a_tree t ts) s = let h = deep t s.0 in let i = deep_all ts s.1 in omega (arith, h, i, own_small t)

  deep_operands : (k : ℕ) (ts : Trees) → AreShallow ts → deepest ts ≤ bound (most_operand k k ts) k
  deep_operands k no_tree s = omega arith
  deep_operands k (a_tree t ts) s =
      let h = lift_bound k (layers_of t) (levels t) (depth t) (own_small t) (deep t s.0) in
      let i = deep_operands k ts s.1 in
      most_bound (lifted k (layers_of t) (levels t)) (most_operand k k ts) k (depth t) (deepest ts) h i

  deep_tail : (k : ℕ) (ts : Trees) → AreShallow ts → deepest (tail ts) ≤ bound (most_operand k k (tail ts)) k
  deep_tail k no_tree s = omega arith
  deep_tail k (a_tree t ts) s = deep_operands k ts s.1

  deep_binds : (bs : Binds) → AreShallowBinds bs → deepest_bind bs ≤ bound (most_bind bs) 8
  deep_binds no_bind s = omega arith
  deep_binds (a_bind p x w t bs) s = let h = deep t s.0 in let i = deep_binds bs s.1 in omega (arith, h, i, own_small t)

  deep_arms : (arms : Arms) → AreShallowArms arms → deepest_arm arms ≤ bound (most_arm arms) 0
  deep_arms (default_arm t) s = let h = deep t s in omega (arith, h, own_small t)
  deep_arms (an_arm l t arms) s = let h = deep t s.0 in let i = deep_arms arms s.1 in omega (arith, h, i, own_small t)

pub keeps_levels : (t : Tree) → Keeps 100 1100 t ↔ KeepsLevels t
keeps_levels t = (λ k. (k.0, k.1), λ k. (k.0, k.1, (let h = deep t k.1 in omega (arith, h, k.0, own_small t))))

pub bodies_shallow : (p : List Definition) → AllKeepLevels p → AllByRecursion (λ d. depth d.body ≤ 1100) p
bodies_shallow [] k = tt
bodies_shallow (d ∷ ds) k = (((keeps_levels d.body).1 k.0).2, bodies_shallow ds k.1)
