use Rattle.std.proofs.Common.{◌≡◌, ℕ, List, length, map, take, ap, ◌∙◌, arith}
use Rattle.std.proofs.Math.Seq.{take-length}
use Rattle.safl_word.specs.Halves.{low_half, high_half, joined_halves}
use Rattle.safl_word.proofs.Joining.{joined_of}
use Rattle.safl_word.proofs.halves.Numbers.new.Goals as goal

pub returns : goal.returns
returns c =
    let ns = c.args.numbers.now in
    let end : c.numbers.number-index ≡ length ns = (let a = c.numbers-test.false in let b = c.numbers.auto.number-index-end in omega (arith, a, b)) in
    let all : take c.numbers.number-index ns ≡ ns = ap (λ k. take k ns) end ∙ take-length ns in
    ap (λ (l : List ℕ). joined_halves l c.numbers.high.items) (c.numbers.invariant.low ∙ ap (map low_half) all)
    ∙ ap (λ (l : List ℕ). joined_halves (map low_half ns) l) (c.numbers.invariant.high ∙ ap (map high_half) all)
    ∙ joined_of ns
