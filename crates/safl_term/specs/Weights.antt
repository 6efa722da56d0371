-- The weight of a term: how much work it is to free it.
use Rattle.std.specs.Prelude.{ℕ, ◌+◌, ◌*◌}
use Rattle.safl_word.specs.Naturals.{work}
use Rattle.safl_term.specs.declared.dismantle.At.{At}
use Rattle.safl_term.specs.declared.term.Term as code
use Rattle.safl_term.specs.Terms.{Term, Terms, Const, Var, Op, If, Let, Call, Loop, Nil, Cons}
use Rattle.safl_term.specs.Tree.{shown_term}

-- the weight of a term. Operators, calls and loops count two, so that they are no leaves even without parts, and a first branch
-- counts twice
abbrev mutual
  pub weight : Term → ℕ
  weight (Const w) = 1
  weight (Var i) = 1
  weight (Op o ts) = 2 + weight_in ts
  weight (If c a b) = 1 + (weight c + (2 * weight a + weight b))
  weight (Let ts b) = 1 + (weight_in ts + weight b)
  weight (Call f k ts) = 2 + weight_in ts
  weight (Loop h ts) = 2 + weight_in ts

  pub weight_in : Terms → ℕ
  weight_in Nil = 0
  weight_in (Cons t ts) = weight t + weight_in ts

abbrev pub code_weight : code.Term → ℕ
code_weight t = weight (shown_term t)

abbrev pub work_at : At → ℕ
work_at a = work (code_weight a.here) (code_weight a.above)
