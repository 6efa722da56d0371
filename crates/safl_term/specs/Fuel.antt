-- The meaning once more, as a function of a number of calls. It gives how many calls are left.
use Rattle.std.specs.Prelude.{◌≡◌, ℕ, zero, suc, List, [], ◌∷◌, ◌++◌}
use Rattle.safl_term.specs.Program.{Program}
use Rattle.safl_term.specs.Terms.{Term, Const, Var, If, Let, Op, Call, Loop, Terms, Nil, Cons}
use Rattle.safl_word.specs.Primitives.{apply_prim}
use Rattle.safl_word.specs.Words.{choose, Word, slot}

-- a word and the number of calls left, or nothing
pub data Outcome : Type 0 where
  Nothing : Outcome
  Gave : (word : Word) (left : ℕ) → Outcome

pub data Outcomes : Type 0 where
  NoWords : Outcomes
  Words : (words : List Word) (left : ℕ) → Outcomes

abbrev pub with_word : Outcome → (Word → ℕ → Outcome) → Outcome
with_word Nothing go = Nothing
with_word (Gave v m) go = go v m

abbrev pub with_words : Outcomes → (List Word → ℕ → Outcome) → Outcome
with_words NoWords go = Nothing
with_words (Words vs m) go = go vs m

abbrev pub with_rest : Outcomes → Word → Outcomes
with_rest NoWords v = NoWords
with_rest (Words vs m) v = Words (v ∷ vs) m

abbrev pub with_head : Outcome → (ℕ → Outcomes) → Outcomes
with_head Nothing go = NoWords
with_head (Gave v m) go = with_rest (go m) v

-- what applications mean, by the number of calls left, the function and its arguments
abbrev pub Apply : Type 0
Apply = ℕ → ℕ → List Word → Outcome

-- evaluation: parts are evaluated from left to right, and each is given the calls that the one before it left
abbrev mutual
  pub eval : Program → Apply → Term → ℕ → List Word → Outcome
  eval C ap (Const w) n env = Gave w n
  eval C ap (Var i) n env = Gave (slot env i) n
  eval C ap (If c a b) n env = with_word (eval C ap c n env) (λ u m. choose u (eval C ap a m env) (eval C ap b m env))
  eval C ap (Let ts b) n env = with_words (eval_all C ap ts n env) (λ us m. eval C ap b m (env ++ us))
  eval C ap (Op o ts) n env = with_words (eval_all C ap ts n env) (λ vs m. Gave (apply_prim o vs) m)
  eval C ap (Call f k ts) n env = with_words (eval_all C ap ts n env) (λ us m. ap m f us)
  eval C ap (Loop h ts) n env = with_words (eval_all C ap ts n env) (λ us m. ap m h us)

  pub eval_all : Program → Apply → Terms → ℕ → List Word → Outcomes
  eval_all C ap Nil n env = Words [] n
  eval_all C ap (Cons t ts) n env = with_head (eval C ap t n env) (λ m. eval_all C ap ts m env)

-- An application without a call left gives nothing. Otherwise it takes one, and evaluates the body with the arguments as env. At
-- most d applications are open at a time. Since each of them takes one of the n calls, d = n is deep enough.
abbrev pub apply : Program → ℕ → Apply
apply C zero n f us = Nothing
apply C (suc d) zero f us = Nothing
apply C (suc d) (suc n) f us = eval C (apply C d) (C.body f) n us

-- main on args gives v in exactly n calls: none of n calls is left
abbrev pub GivesInCalls : Program → List Word → Word → ℕ → Type 0
GivesInCalls C args v n = apply C n n (C.callee 0) args ≡ Gave v 0
