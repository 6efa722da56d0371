-- Whole runs by computation.
use Rattle.safl_circuit.proofs.Common.{Choice, Gave, Program, apply}
use Rattle.std.proofs.Common.{◌≡◌, ℕ, zero, suc, [], ◌∷◌, true, false, cond, ◌==◌, refl}
use Rattle.safl_word.specs.declared.primitive.Primitive.TheVariants.{And}
use Rattle.safl_term.specs.Terms.{Term, Const, Var, Op, If, Call, Loop, Nil, Cons}
use Rattle.safl_term.specs.Readiness.{answer, wanted}
use Rattle.safl_calls.specs.Picks.{first}
use Rattle.safl_circuit.specs.Equations.{go, body_says, body_wants, ends, taken_loop, starts, loads, next}
use Rattle.safl_circuit.specs.Steps.{registers_at}
use Rattle.safl_circuit.proofs.Samples.{constant_program, no_choice}
use Rattle.safl_sites.proofs.SmallPrograms.{byte, sum, nested, bound, decided}
use Rattle.safl_circuit.proofs.EvenProgram.{flag, is_zero, less_one}
use Rattle.safl_circuit.proofs.RunsComputed.{done_below, shown_in}

-- fun main():8 = 7 is done in cycle 2, and in no other of the first 6
seven_done : done_below (constant_program (byte 7)) no_choice [] 6 ≡ false ∷ false ∷ true ∷ false ∷ false ∷ false ∷ []
unfolding registers_at next go body_says body_wants ends taken_loop starts loads first answer wanted
seven_done = refl

seven_shown : shown_in (constant_program (byte 7)) no_choice [] 2 ≡ byte 7
unfolding registers_at next go body_says body_wants ends taken_loop starts loads first answer wanted
seven_shown = refl

-- fun even(x:8):1 = if x == 0 then 1 else odd(x + 255) and odd(x:8):1 = if x == 0 then 0 else even(x + 255)
-- fun main(a:8):1 = even(a) & odd(a)
abbrev both_body : ℕ → Term
both_body zero = If is_zero (Const (flag 1)) (Loop 1 (Cons less_one Nil))
both_body (suc zero) = If is_zero (Const (flag 0)) (Loop 0 (Cons less_one Nil))
both_body (suc (suc zero)) = Op And (Cons (Call 0 1 (Cons (Var 0) Nil)) (Cons (Call 1 2 (Cons (Var 0) Nil)) Nil))
both_body (suc (suc (suc f))) = Const (flag 0)

abbrev both : Program
both = record {
  functions = 3;
  sites = 2;
  main = 2;
  unit = λ f. cond (f == 2) 2 0;
  body = both_body;
  params = λ f. 8 ∷ [];
  result = λ f. 1;
  caller = λ k. 2;
  callee = λ k. cond (k == 0) 2 (cond (k == 1) 0 1);
}

abbrev everywhere : Choice
everywhere = record { arbiter = λ u. u == 0; kept = λ k. true }

both_gives : apply both 7 7 2 (byte 2 ∷ []) ≡ Gave (flag 0) 0
both_gives = refl

both_done : done_below both everywhere (byte 2 ∷ []) 12 ≡ false ∷ false ∷ false ∷ false ∷ false ∷ false ∷ false ∷ false ∷ false ∷ false ∷ true ∷ false ∷ []
unfolding registers_at next go body_says body_wants ends taken_loop starts loads first answer wanted
both_done = refl

both_shown : shown_in both everywhere (byte 2 ∷ []) 10 ≡ flag 0
unfolding registers_at next go body_says body_wants ends taken_loop starts loads first answer wanted
both_shown = refl

-- an arbiter at unit 0, and words kept at these sites
abbrev shared : Choice
shared = record { arbiter = λ u. u == 0; kept = λ k. true }

abbrev keeping : ℕ → Choice
keeping k = record { arbiter = λ u. false; kept = λ j. j == k }

-- f(a) + f(a + 1): the second call waits for the arbiter
sum_done : done_below sum shared (byte 5 ∷ []) 8 ≡ false ∷ false ∷ false ∷ false ∷ false ∷ false ∷ true ∷ false ∷ []
unfolding registers_at next go body_says body_wants ends taken_loop starts loads first answer wanted
sum_done = refl

sum_shown : shown_in sum shared (byte 5 ∷ []) 6 ≡ byte 13
unfolding registers_at next go body_says body_wants ends taken_loop starts loads first answer wanted
sum_shown = refl

-- f(f(a)) needs neither an arbiter nor a kept word
nested_done : done_below nested no_choice (byte 5 ∷ []) 8 ≡ false ∷ false ∷ false ∷ false ∷ false ∷ false ∷ true ∷ false ∷ []
unfolding registers_at next go body_says body_wants ends taken_loop starts loads first answer wanted
nested_done = refl

nested_shown : shown_in nested no_choice (byte 5 ∷ []) 6 ≡ byte 7
unfolding registers_at next go body_says body_wants ends taken_loop starts loads first answer wanted
nested_shown = refl

-- let x = f(a) in f(x) + x keeps the word of its first call
bound_done : done_below bound (keeping 1) (byte 5 ∷ []) 8 ≡ false ∷ false ∷ false ∷ false ∷ false ∷ false ∷ true ∷ false ∷ []
unfolding registers_at next go body_says body_wants ends taken_loop starts loads first answer wanted
bound_done = refl

bound_shown : shown_in bound (keeping 1) (byte 5 ∷ []) 6 ≡ byte 13
unfolding registers_at next go body_says body_wants ends taken_loop starts loads first answer wanted
bound_shown = refl

-- which is overwritten where it is not kept
lost_done : done_below bound no_choice (byte 5 ∷ []) 8 ≡ false ∷ false ∷ false ∷ false ∷ false ∷ false ∷ true ∷ false ∷ []
unfolding registers_at next go body_says body_wants ends taken_loop starts loads first answer wanted
lost_done = refl

lost_shown : shown_in bound no_choice (byte 5 ∷ []) 6 ≡ byte 14
unfolding registers_at next go body_says body_wants ends taken_loop starts loads first answer wanted
lost_shown = refl

-- let x = (if f(a) == 0 then 1 else g(2)) in f(3): g is not called
decided_done : done_below decided (keeping 1) (byte 255 ∷ []) 8 ≡ false ∷ false ∷ false ∷ false ∷ false ∷ false ∷ true ∷ false ∷ []
unfolding registers_at next go body_says body_wants ends taken_loop starts loads first answer wanted
decided_done = refl

decided_shown : shown_in decided (keeping 1) (byte 255 ∷ []) 6 ≡ byte 4
unfolding registers_at next go body_says body_wants ends taken_loop starts loads first answer wanted
decided_shown = refl
