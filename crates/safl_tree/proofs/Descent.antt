-- Which expressions are within given levels and depth, by their parts.
use Rattle.std.proofs.Common.{◌≡◌, ℕ, suc, ◌-◌, ◌<◌, ◌≤◌, max, Bool, List, refl, sym, ap, subst, ◌∙◌, arith, IsTrue, ◌↔◌}
use Rattle.safl_tree.specs.Tree.{Tree, Number, Call, Trees, no_tree, a_tree, depth}
use Rattle.safl_tree.specs.Printable.{layers_of, levels, most, most_operand}
use Rattle.safl_tree.specs.Keeps.{Keeps, PartsKeep}
use Rattle.safl_tree.proofs.Operators.{own_small}

pub depth_some : (t : Tree) → 1 ≤ depth t
depth_some (Number p n) = omega arith
depth_some _ = omega arith

-- at a place of 8 layers there are no parentheses
pub most_bare : (ts : Trees) → most_operand 8 8 ts ≡ most ts
most_bare no_tree = refl
most_bare (a_tree t ts) =
    ap (λ (b : Bool). max (Rattle.std.proofs.Common.cond b (levels t) (suc (levels t))) (most_operand 8 8 ts)) (Rattle.std.proofs.lemmas.Bool.le-leb (layers_of t) 8 (own_small t))
    ∙ ap (λ (n : ℕ). max (levels t) n) (most_bare ts)

-- a call keeps the limits where its arguments do, one level below it
pub call_keeps : (n d : ℕ) {p : ℕ} {f : List ℕ} {ts : Trees} {t : Tree} {r : Bool} → t ≡ Call p f ts → 0 < n → 0 < d
    → IsTrue r ↔ PartsKeep 8 (n - 1) (d - 1) ts → IsTrue r ↔ Keeps n d t
call_keeps n d {p} {f} {ts} {t} {r} is lt some h =
    let m = most_bare ts in
    subst (λ (u : Tree). IsTrue r ↔ Keeps n d u) (sym is)
    (λ y. let k = h.0 y in (omega (arith, k, m), k.1, omega (arith, k)), λ k. h.1 (omega (arith, k, m), k.1, omega (arith, k)))
