-- The number of nodes of a term, its depth, and the number of bindings of its lets.
use Rattle.std.specs.Prelude.{ℕ, zero, suc, ◌+◌, ◌≤◌, max}
use Rattle.safl_word.specs.Limits.{bindings_max}
use Rattle.safl_term.specs.Program.{Program}
use Rattle.safl_term.specs.Slots.{count}
use Rattle.safl_term.specs.Terms.{Term, Terms, Const, Var, Op, If, Let, Call, Loop, Nil, Cons}

abbrev mutual
  pub nodes : Term → ℕ
  nodes (Const w) = 1
  nodes (Var i) = 1
  nodes (Op o ts) = suc (nodes_in ts)
  nodes (If c a b) = suc (nodes c + (nodes a + nodes b))
  nodes (Let ts b) = suc (nodes_in ts + nodes b)
  nodes (Call f k ts) = suc (nodes_in ts)
  nodes (Loop h ts) = suc (nodes_in ts)

  pub nodes_in : Terms → ℕ
  nodes_in Nil = 0
  nodes_in (Cons t ts) = nodes t + nodes_in ts

-- the nodes of the bodies before a function's
unfoldable pub body_nodes : Program → ℕ → ℕ
body_nodes C zero = 0
body_nodes C (suc f) = body_nodes C f + nodes (C.body f)

-- the depth of a term. Constants, variables, and calls and loops without arguments have depth 1; any other term is one deeper
-- than its deepest part
abbrev mutual
  pub depth : Term → ℕ
  depth (Const w) = 1
  depth (Var i) = 1
  depth (Op o ts) = suc (deepest ts)
  depth (If c a b) = suc (max (depth c) (max (depth a) (depth b)))
  depth (Let ts b) = suc (max (deepest ts) (depth b))
  depth (Call f k ts) = suc (deepest ts)
  depth (Loop h ts) = suc (deepest ts)

  pub deepest : Terms → ℕ
  deepest Nil = 0
  deepest (Cons t ts) = max (depth t) (deepest ts)

-- each let has at least one binding, and not too many
abbrev mutual
  pub HasShortLets : Term → Type 0
  HasShortLets (Const w) = Unit {0}
  HasShortLets (Var i) = Unit {0}
  HasShortLets (Op o ts) = HaveShortLets ts
  HasShortLets (If c a b) = HasShortLets c × HasShortLets a × HasShortLets b
  HasShortLets (Let ts b) = (1 ≤ count ts) × (count ts ≤ bindings_max) × HaveShortLets ts × HasShortLets b
  HasShortLets (Call f k ts) = HaveShortLets ts
  HasShortLets (Loop h ts) = HaveShortLets ts

  pub HaveShortLets : Terms → Type 0
  HaveShortLets Nil = Unit {0}
  HaveShortLets (Cons t ts) = HasShortLets t × HaveShortLets ts
