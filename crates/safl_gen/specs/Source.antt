-- The text of a generated source.
use Rattle.std.specs.Prelude.{ℕ, zero, suc, ◌+◌, ◌-◌, ◌*◌, ◌%◌, ◌++◌, map, codes, decimal, nat_lt, if◌then◌else◌}
use Rattle.std.specs.List.{concat, range_with_len}
pub use Rattle.safl_word.specs.Lists.{Text}

-- the bodies of the first four functions, with a constant k. Function i calls at most itself
abbrev pub first_body : ℕ → ℕ → ℕ → Text
first_body zero i k = codes "x + y * " ++ decimal k
first_body (suc zero) i k = codes "if y == 0 then x else f" ++ decimal i ++ codes "(x + " ++ decimal k ++ codes ", y >> 1)"
first_body (suc (suc form)) i k = codes "let p = x ^ y, q = x & " ++ decimal k ++ codes " in p + q"

-- the bodies of the other functions, with a constant k. They call the function before them, p, and one of the first four, j
abbrev pub later_body : ℕ → ℕ → ℕ → ℕ → Text
later_body zero p j k = codes "f" ++ decimal p ++ codes "(x + " ++ decimal k ++ codes ", y) + f" ++ decimal j ++ codes "(x, y)"
later_body (suc zero) p j k = codes "f" ++ decimal j ++ codes "(f" ++ decimal p ++ codes "(x, y ^ " ++ decimal k ++ codes "), y)"
later_body (suc (suc zero)) p j k =
    codes "let p = f" ++ decimal p ++ codes "(y, x) in if p < " ++ decimal k ++ codes " then f" ++ decimal j ++ codes "(p, x) else p"
later_body (suc (suc (suc form))) p j k =
    codes "if f" ++ decimal j ++ codes "(x, " ++ decimal k ++ codes ") == y then x else f" ++ decimal p ++ codes "(y, x + " ++ decimal k ++ codes ")"

-- the body of function i, from the draws for its form, its constant, which is from 1 to 16, and the first function that it calls
abbrev pub body : ℕ → ℕ → ℕ → ℕ → Text
body i form constant first =
    if nat_lt i 4
    then first_body (form % 3) i (constant % 16 + 1)
    else later_body (form % 4) (i - 1) (first % 4) (constant % 16 + 1)

abbrev pub function_line : ℕ → ℕ → ℕ → ℕ → Text
function_line i form constant first =
    codes "fun f" ++ decimal i ++ codes "(x:16, y:16):16 = " ++ body i form constant first ++ codes "\n"

-- the source with this many functions, each made from its three draws, and with main, which calls the last of them
abbrev pub source_text : (ℕ → ℕ) → ℕ → Text
source_text draws count =
    concat (map (λ (i : ℕ). function_line i (draws (3 * i)) (draws (3 * i + 1)) (draws (3 * i + 2))) (range_with_len 0 count))
    ++ (codes "fun main(a:16, b:16):16 = f" ++ decimal (count - 1) ++ codes "(a, b)\n")

-- ---- parts of these texts, each made by a call of its own

abbrev pub scaled_sum : ℕ → Text
scaled_sum k = codes "x + y * " ++ decimal k

abbrev pub halving : ℕ → ℕ → Text
halving i k = codes "if y == 0 then x else f" ++ decimal i ++ codes "(x + " ++ decimal k ++ codes ", y >> 1)"

abbrev pub masked_sum : ℕ → Text
masked_sum k = codes "let p = x ^ y, q = x & " ++ decimal k ++ codes " in p + q"

abbrev pub sum_of_calls : ℕ → ℕ → ℕ → Text
sum_of_calls p j k = codes "f" ++ decimal p ++ codes "(x + " ++ decimal k ++ codes ", y) + f" ++ decimal j ++ codes "(x, y)"

abbrev pub call_in_call : ℕ → ℕ → ℕ → Text
call_in_call p j k = codes "f" ++ decimal j ++ codes "(f" ++ decimal p ++ codes "(x, y ^ " ++ decimal k ++ codes "), y)"

abbrev pub bound_call : ℕ → ℕ → ℕ → Text
bound_call p j k =
    codes "let p = f" ++ decimal p ++ codes "(y, x) in if p < " ++ decimal k ++ codes " then f" ++ decimal j ++ codes "(p, x) else p"

abbrev pub compared_call : ℕ → ℕ → ℕ → Text
compared_call p j k =
    codes "if f" ++ decimal j ++ codes "(x, " ++ decimal k ++ codes ") == y then x else f" ++ decimal p ++ codes "(y, x + " ++ decimal k ++ codes ")"

-- the constant k, from 1 to 16; and j, one of the first four functions
abbrev pub constant_of : ℕ → ℕ
constant_of d = d % 16 + 1

abbrev pub first_function_of : ℕ → ℕ
first_function_of d = d % 4

abbrev pub main_line : ℕ → Text
main_line last = codes "fun main(a:16, b:16):16 = f" ++ decimal last ++ codes "(a, b)\n"

-- the line of function i, made from its three draws
abbrev pub drawn_line : (ℕ → ℕ) → ℕ → Text
drawn_line draws i = function_line i (draws (3 * i)) (draws (3 * i + 1)) (draws (3 * i + 2))
