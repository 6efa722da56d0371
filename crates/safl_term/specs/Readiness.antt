-- Readiness: what a running body comes to and which calls it wants, once some of its sites have returned.
use Rattle.std.specs.Prelude.{ℕ, List, [], ◌∷◌, ◌++◌, Option, Some, None, cond, ◌==◌}
use Rattle.std.specs.Option.{option_or, option_map_or}
use Rattle.safl_word.specs.Words.{Word, choose, slot}
use Rattle.safl_word.specs.declared.primitive.Primitive.{Primitive}
use Rattle.safl_word.specs.Primitives.{apply_prim}
use Rattle.safl_term.specs.Terms.{Term, Const, Var, Op, If, Let, Call, Loop, Terms, Nil, Cons}

-- the stage of a site of a running body: its call has not started, is running, or has returned this word
pub data Stage : Type 0 where
  Unsent : Stage
  Sent : Stage
  Returned : (word : Word) → Stage

-- the word that a site has returned, if it has
abbrev pub back_word : Stage → Option Word
back_word (Returned v) = Some v
back_word _ = None

-- what a body comes to: a word, a tail call of a function of its group with these words, or nothing yet
pub data Answer : Type 0 where
  Ready : (word : Word) → Answer
  LoopTo : (member : ℕ) (args : List Word) → Answer
  NotYet : Answer

abbrev pub word_of : Answer → Option Word
word_of (Ready v) = Some v
word_of _ = None

-- the words of one part and of the rest, if all are ready
abbrev pub both : Answer → Option (List Word) → Option (List Word)
both (Ready v) (Some vs) = Some (v ∷ vs)
both _ _ = None

-- what belongs to the branch that a condition selects, or a third value if the condition is not ready
abbrev pub select : {A : Type 0} → Answer → A → A → A → A
select (Ready u) none a b = choose u a b
select _ none a b = none

unfoldable mutual
  -- What a term comes to. `back` has the words of the sites that have returned. Constants and variables are always ready; an
  -- operator if all its operands are; an if if its condition and the branch that it selects are; a let if all its bindings and
  -- its body are; a call if its site has returned. A loop is never ready: it loops if all its arguments are ready.
  pub answer : (ℕ → Option Word) → List Word → Term → Answer
  answer back env (Const w) = Ready w
  answer back env (Var i) = Ready (slot env i)
  answer back env (Op p ts) = option_map_or (λ (vs : List Word). Ready (apply_prim p vs)) (answers back env ts) NotYet
  answer back env (If c a b) = select (answer back env c) NotYet (answer back env a) (answer back env b)
  answer back env (Let bs b) = option_map_or (λ (vs : List Word). answer back (env ++ vs) b) (answers back env bs) NotYet
  answer back env (Call f k ts) = option_map_or (λ (v : Word). Ready v) (back k) NotYet
  answer back env (Loop h ts) = option_map_or (λ (vs : List Word). LoopTo h vs) (answers back env ts) NotYet

  pub answers : (ℕ → Option Word) → List Word → Terms → Option (List Word)
  answers back env Nil = Some []
  answers back env (Cons t ts) = both (answer back env t) (answers back env ts)

unfoldable mutual
  -- The words with which the term wants site k: the call has its path, and its arguments are ready. A part has the path of its term. But a
  -- branch has it only if the condition is ready and selects it, and the body of a let only if all bindings are ready.
  pub wanted : (ℕ → Option Word) → List Word → Term → ℕ → Option (List Word)
  wanted back env (Op p ts) k = wanted_in back env ts k
  wanted back env (If c a b) k = option_or (wanted back env c k) (select (answer back env c) None (wanted back env a k) (wanted back env b k))
  wanted back env (Let bs b) k = option_or (wanted_in back env bs k) (option_map_or (λ (vs : List Word). wanted back (env ++ vs) b k) (answers back env bs) None)
  wanted back env (Call f j ts) k = cond (j == k) (answers back env ts) (wanted_in back env ts k)
  wanted back env (Loop h ts) k = wanted_in back env ts k
  wanted back env _ k = None

  pub wanted_in : (ℕ → Option Word) → List Word → Terms → ℕ → Option (List Word)
  wanted_in back env Nil k = None
  wanted_in back env (Cons t ts) k = option_or (wanted back env t k) (wanted_in back env ts k)

-- ---- the parts by name

-- the first of two values, or the second if there is no first
abbrev pub or_else : {A : Type 0} → Option A → Option A → Option A
or_else p o = option_or p o

-- the answer that is this word, or nothing yet if there is none
abbrev pub ready_from : Option Word → Answer
ready_from o = option_map_or (λ (v : Word). Ready v) o NotYet

-- what follows from all words, or another value if they are not all ready
abbrev pub with_all : {A : Type 0} → Option (List Word) → A → (List Word → A) → A
with_all o none go = option_map_or go o none

-- the answer that is a primitive's result, or a tail call, if all words are ready
abbrev pub apply_to : Primitive → Option (List Word) → Answer
apply_to p o = with_all o NotYet (λ vs. Ready (apply_prim p vs))

abbrev pub loop_to : ℕ → Option (List Word) → Answer
loop_to h o = with_all o NotYet (λ vs. LoopTo h vs)
