-- A group of two members and main: the program is well formed, and its runs by computation.
use Rattle.safl_circuit.proofs.Common.{Gave, Program, apply}
use Rattle.std.proofs.Common.{◌≡◌, ℕ, zero, suc, ◌<◌, ◌≤◌, List, [], ◌∷◌, true, false, cond, ◌==◌, refl, arith}
use Rattle.safl_word.specs.Words.{Word, IsWord}
use Rattle.safl_word.specs.declared.primitive.Primitive.TheVariants.{Add, Eq}
use Rattle.safl_term.specs.Terms.{Term, Const, Var, Op, If, Call, Loop, Nil, Cons}
use Rattle.safl_term.specs.Readiness.{answer, wanted}
use Rattle.safl_term.specs.WellFormed.{Spans, HasWidth, IsWellFormed}
use Rattle.safl_calls.specs.Picks.{first}
use Rattle.safl_sites.proofs.SmallPrograms.{byte}
use Rattle.safl_circuit.proofs.Samples.{no_choice}
use Rattle.safl_circuit.proofs.RunsComputed.{done_below, shown_in}
use Rattle.safl_circuit.specs.Equations.{go, body_says, body_wants, ends, taken_loop, starts, loads, next}
use Rattle.safl_circuit.specs.Steps.{registers_at}

abbrev pub flag : ℕ → Word
flag n = record { width = 1; bits = n }

abbrev pub is_zero : Term
is_zero = Op Eq (Cons (Var 0) (Cons (Const (byte 0)) Nil))

abbrev pub less_one : Term
less_one = Op Add (Cons (Var 0) (Cons (Const (byte 255)) Nil))

-- fun even(x:8):1 = if x == 0 then 1 else odd(x + 255) and odd(x:8):1 = if x == 0 then 0 else even(x + 255) fun main(a:8):1 = even(a)
abbrev even_body : ℕ → Term
even_body zero = If is_zero (Const (flag 1)) (Loop 1 (Cons less_one Nil))
even_body (suc zero) = If is_zero (Const (flag 0)) (Loop 0 (Cons less_one Nil))
even_body (suc (suc zero)) = Call 0 1 (Cons (Var 0) Nil)
even_body (suc (suc (suc f))) = Const (flag 0)

abbrev even_unit : ℕ → ℕ
even_unit zero = 0
even_unit (suc zero) = 0
even_unit (suc (suc zero)) = 2
even_unit (suc (suc (suc f))) = 0

abbrev even : Program
even = record { functions = 3; sites = 1; main = 2; unit = even_unit; body = even_body; params = λ f. 8 ∷ []; result = λ f. 1; caller = λ k. 2; callee = λ k. cond (k == 0) 2 0 }

even_three : apply even 5 5 2 (byte 3 ∷ []) ≡ Gave (flag 0) 0
even_three = refl

even_done : done_below even no_choice (byte 3 ∷ []) 9 ≡ false ∷ false ∷ false ∷ false ∷ false ∷ false ∷ false ∷ true ∷ false ∷ []
unfolding registers_at next go body_says body_wants ends taken_loop starts loads first answer wanted
even_done = refl

even_shown : shown_in even no_choice (byte 3 ∷ []) 7 ≡ flag 0
unfolding registers_at next go body_says body_wants ends taken_loop starts loads first answer wanted
even_shown = refl

bodies : (f : ℕ) → (lo : ℕ) × (hi : ℕ) × (1 ≤ lo) × Spans even f true lo hi (even_body f)
bodies zero = (1, 1, omega arith, (1, 1, (1, refl, (1, refl, refl)), refl, (refl, refl, (1, (1, refl, (1, refl, refl)), refl))))
bodies (suc zero) = (1, 1, omega arith, (1, 1, (1, refl, (1, refl, refl)), refl, (refl, refl, (1, (1, refl, (1, refl, refl)), refl))))
bodies (suc (suc zero)) = (1, 2, omega arith, (refl, refl, refl, omega arith, (2, refl, refl)))
bodies (suc (suc (suc f))) = (1, 1, omega arith, refl)

below : (f : ℕ) → even_unit f < 3
below zero = omega arith
below (suc zero) = omega arith
below (suc (suc zero)) = omega arith
below (suc (suc (suc f))) = omega arith

top : (f : ℕ) → even_unit f ≤ 2
top zero = omega arith
top (suc zero) = omega arith
top (suc (suc zero)) = omega arith
top (suc (suc (suc f))) = omega arith

a_flag : (n : ℕ) → n < 2 → IsWord (flag n)
a_flag n lt = record { some = omega arith; bounded = omega arith; fits = lt }

a_byte : (n : ℕ) → n < 256 → IsWord (byte n)
a_byte n lt = record { some = omega arith; bounded = omega arith; fits = lt }

two : List ℕ
two = 8 ∷ 8 ∷ []

zero_width : HasWidth even (8 ∷ []) is_zero 1
unfolding two
zero_width = (two, (refl, ((a_byte 0 (omega arith), refl), tt)), refl)

less_width : HasWidth even (8 ∷ []) less_one 8
unfolding two
less_width = (two, (refl, ((a_byte 255 (omega arith), refl), tt)), refl)

widths : (f : ℕ) → f < 3 → HasWidth even (8 ∷ []) (even_body f) 1
widths zero lt = (zero_width, (a_flag 1 (omega arith), refl), ((less_width, tt), refl, omega arith))
widths (suc zero) lt = (zero_width, (a_flag 0 (omega arith), refl), ((less_width, tt), refl, omega arith))
widths (suc (suc zero)) lt = ((refl, tt), refl, omega arith)
widths (suc (suc (suc f))) lt = absurd (omega (arith, lt))

firsts : (f : ℕ) → f < 3 → (even_unit f ≤ f) × (even_unit (even_unit f) ≡ even_unit f) × (even.result (even_unit f) ≡ even.result f)
firsts zero lt = (omega arith, refl, refl)
firsts (suc zero) lt = (omega arith, refl, refl)
firsts (suc (suc zero)) lt = (omega arith, refl, refl)
firsts (suc (suc (suc f))) lt = absurd (omega (arith, lt))

sites : (f : ℕ) → f < 3 → (bodies f).1 ≤ 2
unfolding bodies
sites zero lt = omega arith
sites (suc zero) lt = omega arith
sites (suc (suc zero)) lt = omega arith
sites (suc (suc (suc f))) lt = absurd (omega (arith, lt))

calls : (k : ℕ) → 0 < k → k ≤ 1 → (even.caller k < 3) × (even.callee k < 3) × (even_unit (even.callee k) < even_unit (even.caller k))
calls zero pos le = absurd (omega (arith, pos))
calls (suc zero) pos le = (omega arith, omega arith, omega arith)
calls (suc (suc k)) pos le = absurd (omega (arith, le))

pub even_formed : IsWellFormed even
even_formed = record {
  numbered = record { bodies = bodies; below = below; top = top };
  main = refl;
  main_in = omega arith;
  first = firsts;
  sites = sites;
  calls = calls;
  widths = widths;
}
