use Rattle.std.proofs.Common.{arith, ap, ◌∙◌, ◌≡◌, ◌+◌, ◌-◌, ℕ, List, take, drop}
use Rattle.safl_text.proofs.PrefixByRuns.{sized_front, long_width, long_value, size_digits, read_some, read_none}
use Rattle.safl_text.proofs.front.sized_number.Goals as goal

-- the slice behind the letter
behind : (text rest digits : List ℕ) (n count : ℕ) → rest ≡ drop n text → drop 2 (drop n text) ≡ digits → take (2 + count - 2) (drop 2 rest) ≡ take count digits
behind text rest digits n count e f = let k : 2 + count - 2 ≡ count = omega arith in ap (λ i. take i (drop 2 rest)) k ∙ ap (λ w. take count (drop 2 w)) e ∙ ap (take count) f

pub returns-in-Some-Some : goal.returns-in-Some-Some
returns-in-Some-Some c =
    let d = size_digits c.args.text.now c.args.n c.args.base c.args.count c.requires.some c.requires.run c.requires.size in
    let w = read_some 10 c.split_at.result.0.now (take c.args.n c.args.text.now) c.numeral.result c.in-Some-Some.width c.in-Some-Some.is-0
    c.numeral.ensures.some c.numeral.ensures.value c.split_at.ensures.front in
    let v = read_some c.args.base _ (take c.args.count c.requires.size.digits) c.numeral-value.result c.in-Some-Some.value c.in-Some-Some.is-1
    c.numeral-value.ensures.some c.numeral-value.ensures.value
    (behind c.args.text.now c.split_at.result.1.now c.requires.size.digits c.args.n c.args.count c.split_at.ensures.back d) in
    sized_front c.args.text.now c.args.n c.args.base c.args.count c.requires.some c.requires.run c.requires.size c.in-Some-Some.width c.in-Some-Some.value w.0 w.1 v.0 v.1

pub returns-in_default : goal.returns-in_default
returns-in_default c =
    let d = size_digits c.args.text.now c.args.n c.args.base c.args.count c.requires.some c.requires.run c.requires.size in
    long_value c.args.text.now c.args.n c.args.base c.args.count c.requires.some c.requires.run c.requires.size
    (read_none c.args.base _ (take c.args.count c.requires.size.digits) c.numeral-value.result c.in_default.is-1 c.numeral-value.ensures.some
    (behind c.args.text.now c.split_at.result.1.now c.requires.size.digits c.args.n c.args.count c.split_at.ensures.back d))

pub returns-in_default-2 : goal.returns-in_default-2
returns-in_default-2 c =
    long_width c.args.text.now c.args.n c.args.base c.args.count c.requires.some c.requires.run c.requires.size
    (read_none 10 c.split_at.result.0.now (take c.args.n c.args.text.now) c.numeral.result c.in_default.is-0 c.numeral.ensures.some c.split_at.ensures.front)
