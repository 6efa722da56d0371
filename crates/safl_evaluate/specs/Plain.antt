-- Plain terms and plain bodies, and what they come to.
use Rattle.std.specs.Prelude.{◌≡◌, ◌+◌, ℕ, ◌≤◌, ◌&&◌, List, ◌∷◌, [], length, take, Option, Some, Bool, true, false}
use Rattle.safl_word.specs.Words.{Word}
use Rattle.safl_term.specs.Readiness.{Answer, Ready, NotYet, answer, answers}
use Rattle.safl_term.specs.Sizes.{nodes, nodes_in}
use Rattle.safl_term.specs.Terms.{Term, Const, Var, Op, If, Let, Call, Loop, Terms, Nil, Cons}
use Rattle.safl_evaluate.specs.declared.stage.Stage.{Stage}
use Rattle.safl_evaluate.specs.Answers.{passed_on}
use Rattle.safl_evaluate.specs.Evaluating.{CanRun, CanRunAll}

-- the term is plain: no call and no tail call stands in it
abbrev mutual
  pub plain_term : Term → Bool
  plain_term (Const w) = true
  plain_term (Var i) = true
  plain_term (Op o ts) = plain_terms ts
  plain_term (If c a b) = plain_term c && (plain_term a && plain_term b)
  plain_term (Let ts b) = plain_terms ts && plain_term b
  plain_term (Call f k ts) = false
  plain_term (Loop h ts) = false

  pub plain_terms : Terms → Bool
  plain_terms Nil = true
  plain_terms (Cons t ts) = plain_term t && plain_terms ts

-- The term is a plain body: no call stands in it, and tail calls stand in tail position only, with plain arguments.
abbrev pub plain_body : Term → Bool
plain_body (Const w) = true
plain_body (Var i) = true
plain_body (Op o ts) = plain_terms ts
plain_body (If c a b) = plain_term c && (plain_body a && plain_body b)
plain_body (Let ts b) = plain_terms ts && plain_body b
plain_body (Call f k ts) = false
plain_body (Loop h ts) = plain_terms ts

-- the term comes to this word, whichever sites have returned
pub record ComesTo (env : List Word) (t : Term) (v : Word) : Type 0 where
  pub word : (back : ℕ → Option Word) → answer back env t ≡ Ready v

-- the terms come to these words, whichever sites have returned
pub record ComeTo (env : List Word) (ts : Terms) (vs : List Word) : Type 0 where
  pub words : (back : ℕ → Option Word) → answers back env ts ≡ Some vs

-- the body comes to this answer, a word or a tail call, whichever sites have returned
pub record ConcludesIn (env : List Word) (t : Term) (q : Answer) : Type 0 where
  pub answer_is : (back : ℕ → Option Word) → answer back env t ≡ q
  pub settled : q ≡ NotYet → ⊥

-- the word that the term comes to was added to a tail call
pub record PassesOne (env : List Word) (t : Term) (q q1 : Answer) : Type 0 where
  pub word : Word
  pub comes : ComesTo env t word
  pub told : q1 ≡ passed_on q (word ∷ [])

-- the words that the terms come to were added to it
pub record PassesOn (env : List Word) (ts : Terms) (q q1 : Answer) : Type 0 where
  pub words : List Word
  pub come : ComeTo env ts words
  pub told : q1 ≡ passed_on q words

-- A plain term may be computed: it can run with the first `slots` words of `env` in its slots, and `env` has room for one more
-- word for each of its nodes.
pub record CanCompute (env : List Word) (slots : ℕ) (t : Term) : Type 0 where
  pub stages : List Stage
  pub sites : ℕ
  pub can : CanRun stages sites (take slots env) t
  pub room : slots + nodes t ≤ length env
  pub plain : plain_term t ≡ true

pub record CanComputeAll (env : List Word) (slots : ℕ) (ts : Terms) : Type 0 where
  pub stages : List Stage
  pub sites : ℕ
  pub can : CanRunAll stages sites (take slots env) ts
  pub room : slots + nodes_in ts ≤ length env
  pub plain : plain_terms ts ≡ true

-- a plain body may be computed, under the same conditions
pub record CanConclude (env : List Word) (slots : ℕ) (t : Term) : Type 0 where
  pub stages : List Stage
  pub sites : ℕ
  pub can : CanRun stages sites (take slots env) t
  pub room : slots + nodes t ≤ length env
  pub plain : plain_body t ≡ true
