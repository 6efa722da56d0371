use Rattle.std.proofs.Common.{◌-◌, ◌++◌, ◌∷◌, [], ℕ, List, take, ap, sym, ◌∙◌, arith}
use Rattle.std.proofs.lemmas.List.{take_all}
use Rattle.safl_word.specs.Words.{Word, widths}
use Rattle.safl_word.proofs.Lists.{take_next}
use Rattle.safl_tests.proofs.Words.{widths_push, last_function}
use Rattle.safl_tests.proofs.meanings.words_of.Goals as goal

pub params-preserved : goal.params-preserved
params-preserved c =
    let params : List ℕ = c.args.c.now.program.params (c.functions-main.result - 1) in
    ap widths c.in_ok-push.ensures.items
    ∙ widths_push c.params.words.items c.from_low_bits.result
    ∙ ap (λ (l : List ℕ). l ++ c.from_low_bits.result.width ∷ []) c.params.invariant
    ∙ ap (λ (w : Word). take c.params.i params ++ w.width ∷ []) c.from_low_bits.ensures
    ∙ sym (take_next params c.params.i c.param_width.result c.param_width.ensures.width)

pub returns : goal.returns
returns c =
    c.params.invariant
    ∙ take_all c.params.i (c.args.c.now.program.params (c.functions-main.result - 1)) (let a = c.params-test.false in let b = c.params-i-end.ensures.count in omega (arith, a, b))
    ∙ ap (λ (k : ℕ). c.args.c.now.program.params k) (last_function c.args.c.now c.functions-main.result c.functions-main.ensures.count)
