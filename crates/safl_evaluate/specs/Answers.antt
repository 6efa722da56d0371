-- What the body of a unit comes to.
use Rattle.std.specs.Prelude.{◌≡◌, ℕ, ◌+◌, ◌≤◌, List, ◌++◌, length, Option, Some, None, Bool, true, false, ◌==◌}
use Rattle.safl_word.specs.Words.{Word}
use Rattle.safl_term.specs.Readiness.{Answer, Ready, LoopTo, NotYet}
use Rattle.safl_evaluate.specs.declared.answer.Kind.{Kind}
use Rattle.safl_evaluate.specs.declared.answer.Kind as code

-- the answer of this kind, where a tail call has these words
abbrev pub answer_of : Kind → List Word → Answer
answer_of (code.TheVariants.Ready v) ws = Ready v
answer_of (code.TheVariants.Loop h) ws = LoopTo h ws
answer_of code.TheVariants.NotYet ws = NotYet

-- the arguments of an answer that is a tail call
abbrev pub args_given : Answer → Option (List Word)
args_given (Ready v) = None
args_given (LoopTo h vs) = Some vs
args_given NotYet = None

abbrev pub is_ready : Answer → Bool
is_ready (Ready v) = true
is_ready (LoopTo h vs) = false
is_ready NotYet = false

abbrev pub loops_to : Answer → ℕ → Bool
loops_to (Ready v) h = false
loops_to (LoopTo g vs) h = g == h
loops_to NotYet h = false

-- a tail call that has these words too
abbrev pub passed_on : Answer → List Word → Answer
passed_on (Ready v) ws = Ready v
passed_on (LoopTo h vs) ws = LoopTo h (vs ++ ws)
passed_on NotYet ws = NotYet

-- a tail call that has room for so many words more
pub record HasRoom (q : Answer) (count : ℕ) : Type 0 where
  pub member : ℕ
  pub words : List Word
  pub is : q ≡ LoopTo member words
  pub few : length words + count ≤ 16
