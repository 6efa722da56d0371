-- Draws, one after another.
use Rattle.std.proofs.Common.{◌≡◌, ℕ, ◌+◌, ◌*◌, ◌/◌, ◌%◌, ◌^◌, sym, ap, ◌∙◌, add-one, arith}
use Rattle.safl_word.specs.Naturals.{number_after}
use Rattle.safl_gen.specs.Draws.{nth_number, draw}
use Rattle.safl_gen.specs.Source.{function_line, drawn_line}

-- the number after that of a place, and what is drawn there
number_more : (seed n x : ℕ) → x ≡ nth_number seed n → number_after x ≡ nth_number seed (n + 1)
unfolding nth_number
number_more seed n x at = ap number_after at ∙ ap (nth_number seed) (sym (add-one n))

draw_at : (seed n y d : ℕ) → y ≡ nth_number seed (n + 1) → d ≡ y / 65536 → d ≡ draw seed n
draw_at seed n y d at drawn = drawn ∙ ap (λ (m : ℕ). m / 65536) (at ∙ ap (nth_number seed) (add-one n))

-- the third number after that of a place
number_third : (seed n x : ℕ) → x ≡ nth_number seed n → number_after (number_after (number_after x)) ≡ nth_number seed (n + 2 + 1)
number_third seed n x at =
    let one = number_more seed n x at in
    let two = number_more seed (n + 1) (number_after x) one in
    let same : n + 1 + 1 ≡ n + 2 = omega arith in
    number_more seed (n + 2) (number_after (number_after x)) (two ∙ ap (nth_number seed) same)

pub draws_first : (seed x : ℕ) → x ≡ seed % 2 ^ 31 → x ≡ nth_number seed 0
unfolding nth_number
draws_first seed x e = e

-- after the draws of function i come those of the next one
pub draws_more : (seed i x y : ℕ) → x ≡ nth_number seed (3 * i) → y ≡ number_after (number_after (number_after x)) → y ≡ nth_number seed (3 * (i + 1))
draws_more seed i x y at e =
    let same : 3 * i + 2 + 1 ≡ 3 * (i + 1) = omega arith in
    e ∙ number_third seed (3 * i) x at ∙ ap (nth_number seed) same

-- the line of function i is made from its draws
pub line_drawn : (seed i x y form constant first : ℕ) → x ≡ nth_number seed (3 * i) → y ≡ number_after (number_after (number_after x))
    → form ≡ number_after x / 65536 → constant ≡ number_after (number_after x) / 65536 → first ≡ y / 65536 → function_line i form constant first ≡ drawn_line (draw seed) i
line_drawn seed i x y form constant first at e f c g =
    let one = number_more seed (3 * i) x at in
    let two = number_more seed (3 * i + 1) (number_after x) one in
    let same_form = draw_at seed (3 * i) (number_after x) form one f in
    let same_constant = draw_at seed (3 * i + 1) (number_after (number_after x)) constant two c in
    let same_first = draw_at seed (3 * i + 2) y first (e ∙ number_third seed (3 * i) x at) g in
    ap (λ (m : ℕ). function_line i m constant first) same_form
    ∙ ap (λ (m : ℕ). function_line i (draw seed (3 * i)) m first) same_constant
    ∙ ap (λ (m : ℕ). function_line i (draw seed (3 * i)) (draw seed (3 * i + 1)) m) same_first
