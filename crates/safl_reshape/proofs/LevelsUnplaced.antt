-- Places change no levels; so a text that spells a program, places aside, keeps the levels that the program has.
use Rattle.std.proofs.Common.{◌≡◌, ℕ, ◌+◌, ◌<◌, ◌≤◌, max, Bool, true, false, List, [], ◌∷◌, refl, sym, ap, ◌∙◌, subst, ◌↔◌}
use Rattle.safl_tree.specs.Tree.{Tree, Number, Sized, Variable, If, Let, Cases, Op, Call, Trees, no_tree, a_tree, Binds, no_bind, a_bind, Arms}
use Rattle.safl_tree.specs.Tree.{default_arm, an_arm, Definition}
use Rattle.safl_tree.specs.Places.{unplaced, unplaced_trees, unplaced_binds, unplaced_arms, unplaced_program}
use Rattle.safl_tree.specs.Printable.{is_binary, left_context, right_context, below_of, layers_of, lifted, levels, most, most_operand, most_bind, most_arm}
use Rattle.safl_tree.specs.Printable.{OfBinary, LeftShallow, IsShallow, AreShallow, AreShallowBinds, AreShallowArms, KeepsLevels, AllKeepLevels}
use Rattle.safl_tree.specs.Printed.{printed}
use Rattle.safl_tree.specs.Laws.{SpelledBy}
use Rattle.safl_tree.proofs.PrintableText.{printable}
use Rattle.safl_reshape.proofs.Unplaced.{depth_unplaced}

layers_same : (t : Tree) → layers_of (unplaced t) ≡ layers_of t
layers_same (Number p n) = refl
layers_same (Sized p w n) = refl
layers_same (Variable p x) = refl
layers_same (If p c a b) = refl
layers_same (Let p bs t) = refl
layers_same (Cases p e arms) = refl
layers_same (Op p o ts) = refl
layers_same (Call p f ts) = refl

mutual
  levels_same : (t : Tree) → levels (unplaced t) ≡ levels t
  levels_same (Number p n) = refl
  levels_same (Sized p w n) = refl
  levels_same (Variable p x) = refl
  levels_same (If p c a b) = cc (levels_same c, levels_same a, levels_same b)
  levels_same (Let p bs t) = cc (bind_same bs, levels_same t)
  levels_same (Cases p e arms) = cc (levels_same e, arm_same arms)
  levels_same (Op p o ts) = ap (λ (n : ℕ). below_of o + n) (operand_same (left_context o) (right_context o) ts)
  levels_same (Call p f ts) = ap (λ (n : ℕ). 1 + n) (most_same ts)

  most_same : (ts : Trees) → most (unplaced_trees ts) ≡ most ts
  most_same no_tree = refl
  most_same (a_tree t ts) = cc (levels_same t, most_same ts)

  operand_same : (k right : ℕ) (ts : Trees) → most_operand k right (unplaced_trees ts) ≡ most_operand k right ts
  operand_same k right no_tree = refl
  operand_same k right (a_tree t ts) =
      ap (λ (n : ℕ). max (lifted k n (levels (unplaced t))) (most_operand right right (unplaced_trees ts))) (layers_same t)
      ∙ ap (λ (n : ℕ). max (lifted k (layers_of t) n) (most_operand right right (unplaced_trees ts))) (levels_same t)
      ∙ ap (λ (n : ℕ). max (lifted k (layers_of t) (levels t)) n) (operand_same right right ts)

  bind_same : (bs : Binds) → most_bind (unplaced_binds bs) ≡ most_bind bs
  bind_same no_bind = refl
  bind_same (a_bind p x w t bs) = cc (levels_same t, bind_same bs)

  arm_same : (arms : Arms) → most_arm (unplaced_arms arms) ≡ most_arm arms
  arm_same (default_arm t) = ap (λ (n : ℕ). 1 + n) (levels_same t)
  arm_same (an_arm l t arms) = cc (levels_same t, arm_same arms)

left_same : (ts : Trees) → LeftShallow (unplaced_trees ts) ↔ LeftShallow ts
left_same no_tree = (λ h. tt, λ h. tt)
left_same (a_tree t ts) = (λ h. subst (λ (n : ℕ). n < 100) (depth_unplaced t) h, λ h. subst (λ (n : ℕ). n < 100) (sym (depth_unplaced t)) h)

binary_same : (b : Bool) (ts : Trees) → OfBinary b (LeftShallow (unplaced_trees ts)) ↔ OfBinary b (LeftShallow ts)
binary_same true ts = left_same ts
binary_same false ts = (λ h. tt, λ h. tt)

mutual
  shallow_same : (t : Tree) → IsShallow (unplaced t) ↔ IsShallow t
  shallow_same (Number p n) = (λ h. tt, λ h. tt)
  shallow_same (Sized p w n) = (λ h. tt, λ h. tt)
  shallow_same (Variable p x) = (λ h. tt, λ h. tt)
  shallow_same (If p c a b) =
      let x = shallow_same c in
      let y = shallow_same a in
      let z = shallow_same b in
      (λ h. (x.0 h.0, y.0 h.1, z.0 h.2), λ h. (x.1 h.0, y.1 h.1, z.1 h.2))
  shallow_same (Let p bs t) = let x = shallow_binds bs in let y = shallow_same t in (λ h. (x.0 h.0, y.0 h.1), λ h. (x.1 h.0, y.1 h.1))
  shallow_same (Cases p e arms) = let x = shallow_same e in let y = shallow_arms arms in (λ h. (x.0 h.0, y.0 h.1), λ h. (x.1 h.0, y.1 h.1))
  shallow_same (Op p o ts) = let x = binary_same (is_binary o) ts in let y = shallow_trees ts in (λ h. (x.0 h.0, y.0 h.1), λ h. (x.1 h.0, y.1 h.1))
  shallow_same (Call p f ts) = shallow_trees ts

  shallow_trees : (ts : Trees) → AreShallow (unplaced_trees ts) ↔ AreShallow ts
  shallow_trees no_tree = (λ h. tt, λ h. tt)
  shallow_trees (a_tree t ts) = let x = shallow_same t in let y = shallow_trees ts in (λ h. (x.0 h.0, y.0 h.1), λ h. (x.1 h.0, y.1 h.1))

  shallow_binds : (bs : Binds) → AreShallowBinds (unplaced_binds bs) ↔ AreShallowBinds bs
  shallow_binds no_bind = (λ h. tt, λ h. tt)
  shallow_binds (a_bind p x w t bs) = let y = shallow_same t in let z = shallow_binds bs in (λ h. (y.0 h.0, z.0 h.1), λ h. (y.1 h.0, z.1 h.1))

  shallow_arms : (arms : Arms) → AreShallowArms (unplaced_arms arms) ↔ AreShallowArms arms
  shallow_arms (default_arm t) = shallow_same t
  shallow_arms (an_arm l t arms) = let y = shallow_same t in let z = shallow_arms arms in (λ h. (y.0 h.0, z.0 h.1), λ h. (y.1 h.0, z.1 h.1))

keeps_same : (t : Tree) → KeepsLevels (unplaced t) ↔ KeepsLevels t
keeps_same t =
    let s = shallow_same t in
    (λ h. (subst (λ (n : ℕ). n ≤ 100) (levels_same t) h.0, s.0 h.1), λ h. (subst (λ (n : ℕ). n ≤ 100) (sym (levels_same t)) h.0, s.1 h.1))

all_same : (ds : List Definition) → AllKeepLevels (unplaced_program ds) ↔ AllKeepLevels ds
all_same [] = (λ h. tt, λ h. tt)
all_same (d ∷ ds) = let x = keeps_same d.body in let y = all_same ds in (λ h. (x.0 h.0, y.0 h.1), λ h. (x.1 h.0, y.1 h.1))

-- what is read from the text keeps the levels, since a text that is read does
pub spelled_keeps : (ds : List Definition) → SpelledBy (printed ds) ds → AllKeepLevels ds
spelled_keeps ds (q, spells, same) = (all_same ds).0 (subst AllKeepLevels same ((all_same q).1 (printable (printed ds) q spells).kept))
