-- A whole run with a group of functions, by computation.
use Rattle.safl_core.proofs.Common.{Program, Word, listed}
use Rattle.std.proofs.Common.{◌≡◌, ℕ, List, [], ◌∷◌, cond, ◌==◌, nat_lt, refl}
use Rattle.safl_word.specs.declared.primitive.Primitive.TheVariants.{Eq, Sub}
use Rattle.safl_term.specs.Terms.{Term, Terms, Const, Var, Op, If, Call, Loop, Nil, Cons}
use Rattle.safl_term.specs.Readiness.{Returned, answer, wanted}
use Rattle.safl_calls.specs.Machine.{Event, Accept, Finish, Return, LoopInto, opening, after_event}
use Rattle.safl_calls.specs.Picks.{picks}

abbrev byte : ℕ → Word
byte n = record { width = 8; bits = n }

abbrev bit : ℕ → Word
bit n = record { width = 1; bits = n }

abbrev of_two : Term → Term → Terms
of_two a b = Cons a (Cons b Nil)

-- fun even(x:8):1 = if x == 0 then 1 else odd(x - 1) and odd(x:8):1 = if x == 0 then 0 else even(x - 1)
-- fun main(a:8):1 = even(a)
abbrev body_of : ℕ → ℕ → Term
body_of found other = If (Op Eq (of_two (Var 0) (Const (byte 0)))) (Const (bit found)) (Loop other (Cons (Op Sub (of_two (Var 0) (Const (byte 1)))) Nil))

abbrev parity : Program
parity = record {
  functions = 3;
  sites = 1;
  main = 2;
  unit = λ f. cond (nat_lt f 2) 0 2;
  body = λ f. cond (f == 0) (body_of 1 1) (cond (f == 1) (body_of 0 0) (Call 0 1 (Cons (Var 0) Nil)));
  params = λ f. 8 ∷ [];
  result = λ f. 1;
  caller = λ k. 2;
  callee = λ k. cond (k == 0) 2 0;
}

abbrev given : List Word
given = byte 3 ∷ []

-- nine events, each the only one that is listed where it is fired
abbrev events : List Event
events = Accept 0 ∷ Accept 1 ∷ LoopInto 1 ∷ LoopInto 0 ∷ LoopInto 1 ∷ Finish 1 ∷ Return 1 ∷ Finish 2 ∷ Return 0 ∷ []

returned : (after_event parity given opening events).site 0 ≡ Returned (bit 0)
unfolding after_event answer wanted
returned = refl

first_listed : listed parity given opening ≡ Accept 0 ∷ []
unfolding picks answer wanted
first_listed = refl

looping_listed : listed parity given (after_event parity given opening (Accept 0 ∷ Accept 1 ∷ [])) ≡ LoopInto 1 ∷ []
unfolding picks after_event answer wanted
looping_listed = refl

none_listed : listed parity given (after_event parity given opening events) ≡ []
unfolding picks after_event answer wanted
none_listed = refl
