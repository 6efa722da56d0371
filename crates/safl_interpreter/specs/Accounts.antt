-- What an evaluation adds to an account, and when it is ready.
use Rattle.std.specs.Prelude.{ℕ, ◌+◌, ◌-◌, max, List, [], ◌∷◌, ◌++◌, Bool, true, false, set}
use Rattle.std.proofs.Math.ListN.{replicate}
use Rattle.safl_word.specs.Words.{Word}
use Rattle.safl_term.specs.Program.{Program}
use Rattle.safl_term.specs.Terms.{Term, Terms}
use Rattle.safl_term.specs.Meaning.{Gives, gives_const, gives_var, gives_op, gives_if, gives_let, gives_call, gives_loop, GivesAll, gives_nil, gives_cons}
use Rattle.safl_interpreter.specs.declared.account.Account as declared

-- the calls, how many of them are tail calls, and for each function whether it was called
pub record Account : Type 0 where
  pub calls : ℕ
  pub loops : ℕ
  pub called : List Bool

abbrev pub shown_account : declared.Account → Account
shown_account a = record { calls = a.calls; loops = a.loops; called = a.called.items }

-- main, the last of n functions, has been called
abbrev pub opening : ℕ → Account
opening n = record { calls = 1; loops = 0; called = replicate (n - 1) false ++ true ∷ [] }

-- 1 for a tail call
abbrev pub one_if : Bool → ℕ
one_if true = 1
one_if false = 0

-- the cycles that a call takes beside its arguments and its body
abbrev pub cycles : Bool → ℕ
cycles true = 1
cycles false = 2

-- f is called, by a tail call or not
abbrev pub booked : ℕ → Bool → Account → Account
booked f is_loop a = record { calls = a.calls + 1; loops = a.loops + one_if is_loop; called = set a.called f true }

abbrev mutual
  -- the account after an evaluation
  pub counted : (C : Program) {env : List Word} {t : Term} {v : Word} → Gives C env t v → Account → Account
  counted C gives_const a = a
  counted C gives_var a = a
  counted C (gives_op ds) a = counted_all C ds a
  counted C (gives_if c d) a = counted C d (counted C c a)
  counted C (gives_let ds d) a = counted C d (counted_all C ds a)
  counted C (gives_call {f = f} ds d) a = counted C d (booked f false (counted_all C ds a))
  counted C (gives_loop {h = h} ds d) a = counted C d (booked h true (counted_all C ds a))

  pub counted_all : (C : Program) {env : List Word} {ts : Terms} {vs : List Word} → GivesAll C env ts vs → Account → Account
  counted_all C gives_nil a = a
  counted_all C (gives_cons d ds) a = counted_all C ds (counted C d a)

abbrev mutual
  -- the cycle in which a term is ready that begins in cycle n
  pub ready : (C : Program) {env : List Word} {t : Term} {v : Word} → Gives C env t v → ℕ → ℕ
  ready C gives_const n = n
  ready C gives_var n = n
  ready C (gives_op ds) n = ready_all C ds n n
  ready C (gives_if c d) n = ready C d (max n (ready C c n))
  ready C (gives_let ds d) n = ready C d (ready_all C ds n n)
  ready C (gives_call ds d) n = ready C d (ready_all C ds n n + cycles false)
  ready C (gives_loop ds d) n = ready C d (ready_all C ds n n + cycles true)

  -- the cycle in which all terms are ready that begin in cycle n, and what is ready in cycle m
  pub ready_all : (C : Program) {env : List Word} {ts : Terms} {vs : List Word} → GivesAll C env ts vs → ℕ → ℕ → ℕ
  ready_all C gives_nil n m = m
  ready_all C (gives_cons d ds) n m = ready_all C ds n (max m (ready C d n))
