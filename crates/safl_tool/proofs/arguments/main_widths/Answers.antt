use Rattle.std.proofs.Common.{◌-◌, ◌++◌, ◌∷◌, [], ℕ, List, ap, sym, ◌∙◌, arith}
use Rattle.std.proofs.lemmas.List.{take_all}
use Rattle.safl_word.proofs.Lists.{take_next}
use Rattle.safl_tool.proofs.Walked.{last_function}
use Rattle.safl_tool.proofs.arguments.main_widths.Goals as goal

pub params-preserved : goal.params-preserved
params-preserved c =
    c.in_ok-push.ensures.items ∙ ap (λ (l : List ℕ). l ++ c.param_width.result ∷ []) c.params.invariant
    ∙ sym (take_next (c.args.checked.now.program.params (c.functions-main.result - 1)) c.params.i c.param_width.result c.param_width.ensures.width)

pub returns : goal.returns
returns c =
    c.params.invariant
    ∙ take_all c.params.i (c.args.checked.now.program.params (c.functions-main.result - 1)) (let a = c.params-test.false in let b = c.params-i-end.ensures.count in omega (arith, a, b))
    ∙ ap (λ (k : ℕ). c.args.checked.now.program.params k) (last_function c.args.checked.now c.functions-main.result c.functions-main.ensures.count)
