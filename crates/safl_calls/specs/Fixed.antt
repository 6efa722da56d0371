-- Terms that take the same number of cycles for all arguments.
use Rattle.std.specs.Prelude.{◌≡◌, ℕ, ◌+◌, ◌*◌, ◌≤◌, max, List}
use Rattle.safl_word.specs.Words.{Word}
use Rattle.safl_word.specs.declared.primitive.Primitive.{Primitive}
use Rattle.safl_term.specs.Program.{Program}
use Rattle.safl_term.specs.Terms.{Term, Const, Var, Op, If, Let, Call, Terms, Nil, Cons}
use Rattle.safl_term.specs.Meaning.{Main, main_cost, loops}
use Rattle.safl_calls.specs.Span.{main_span}

mutual
  -- The term takes n cycles, by its text alone: both branches of an if take equally many, and there is no tail call.
  pub data Takes (C : Program) : Term → ℕ → Type 0 where
    takes_const : {w : Word} → Takes C (Const w) 0
    takes_var : {i : ℕ} → Takes C (Var i) 0
    takes_op : {o : Primitive} {ts : Terms} {n : ℕ} → TakeAll C ts n → Takes C (Op o ts) n
    takes_if : {c a b : Term} {m n : ℕ} → Takes C c m → Takes C a n → Takes C b n → Takes C (If c a b) (m + n)
    takes_let : {ts : Terms} {b : Term} {m n : ℕ} → TakeAll C ts m → Takes C b n → Takes C (Let ts b) (m + n)
    takes_call : {f k : ℕ} {ts : Terms} {m n : ℕ} → TakeAll C ts m → Takes C (C.body f) n → Takes C (Call f k ts) (m + (2 + n))

  -- the longest of the terms takes n cycles
  pub data TakeAll (C : Program) : Terms → ℕ → Type 0 where
    take_nil : TakeAll C Nil 0
    take_cons : {t : Term} {ts : Terms} {m n : ℕ} → Takes C t m → TakeAll C ts n → TakeAll C (Cons t ts) (max m n)

-- where main's body takes n cycles, every evaluation of main has the span n + 2
abbrev pub IsFixed : Program → Type 0
IsFixed C = (n : ℕ) → Takes C (C.body (C.callee 0)) n → (args : List Word) (v : Word) (d : Main C args v) → main_span C args d ≡ 2 + n

-- a span is at most two cycles for each call of the evaluation, less one for each loop
abbrev pub IsShort : Program → Type 0
IsShort C = (args : List Word) (v : Word) (d : Main C args v) → main_span C args d + loops C d ≤ 2 * main_cost C args d
