-- How long a source is.
use Rattle.std.proofs.Common.{ℕ, zero, suc, ◌+◌, ◌-◌, ◌*◌, ◌%◌, ◌<◌, ◌≤◌, length, map, Bool, true, false, cond, nat_lt, arith, length-append}
use Rattle.std.specs.List.{concat, range_with_len}
use Rattle.safl_word.proofs.Naturals.{number_short}
use Rattle.safl_gen.specs.Source.{Text, first_body, later_body, constant_of, first_function_of, body, function_line, drawn_line, source_text}

first_short : (form i k : ℕ) → i < 1000 → k < 1000 → length (first_body form i k) ≤ 60
first_short zero i k hi hk = let b = number_short k hk in simp length-append (omega arith)
first_short (suc zero) i k hi hk = let a = number_short i hi in let b = number_short k hk in simp length-append (omega arith)
first_short (suc (suc form)) i k hi hk = let b = number_short k hk in simp length-append (omega arith)

later_short : (form p j k : ℕ) → p < 1000 → j < 1000 → k < 1000 → length (later_body form p j k) ≤ 60
later_short zero p j k hp hj hk = let a = number_short p hp in let b = number_short j hj in let d = number_short k hk in simp length-append (omega arith)
later_short (suc zero) p j k hp hj hk = let a = number_short p hp in let b = number_short j hj in let d = number_short k hk in simp length-append (omega arith)
later_short (suc (suc zero)) p j k hp hj hk = let a = number_short p hp in let b = number_short j hj in let d = number_short k hk in simp length-append (omega arith)
later_short (suc (suc (suc form))) p j k hp hj hk = let a = number_short p hp in let b = number_short j hj in let d = number_short k hk in simp length-append (omega arith)

body_short : (i form constant first : ℕ) → i < 1000 → length (body i form constant first) ≤ 60
body_short i form constant first hi = go (nat_lt i 4)
  where
    small : constant_of constant < 1000
    small = omega arith

    few : first_function_of first < 1000
    few = omega arith

    go : (b : Bool) → length (cond b (first_body (form % 3) i (constant_of constant)) (later_body (form % 4) (i - 1) (first_function_of first) (constant_of constant))) ≤ 60
    go true = first_short (form % 3) i (constant_of constant) hi small
    go false = later_short (form % 4) (i - 1) (first_function_of first) (constant_of constant) (omega arith) few small

line_short : (i form constant first : ℕ) → i < 1000 → length (function_line i form constant first) ≤ 90
line_short i form constant first hi = let a = number_short i hi in let b = body_short i form constant first hi in simp length-append (omega arith)

lines_short : (f : ℕ → Text) (a n : ℕ) → ((k : ℕ) → k < a + n → length (f k) ≤ 90) → length (concat (map f (range_with_len a n))) ≤ 90 * n
lines_short f a zero h = omega arith
lines_short f a (suc n) h =
    let first = h a (omega arith) in
    let rest = lines_short f (a + 1) n (λ k lt. h k (omega arith)) in
    simp length-append (omega arith)

-- a source of at most 900 functions is within what may be read
pub source_short : (draws : ℕ → ℕ) (count : ℕ) → count ≤ 900 → length (source_text draws count) ≤ 1048576
source_short draws count most =
    let lines = lines_short (drawn_line draws) 0 count (λ k lt. line_short k (draws (3 * k)) (draws (3 * k + 1)) (draws (3 * k + 2)) (omega arith)) in
    let last = number_short (count - 1) (omega arith) in
    simp length-append (omega arith)
