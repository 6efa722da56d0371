use Rattle.std.proofs.Common.{ℕ, List, [], ◌∷◌, ◌++◌, take, ap, sym, ◌∙◌, arith}
use Rattle.std.proofs.lemmas.List.{take_all}
use Rattle.safl_word.proofs.Lists.{take_next}
use Rattle.safl_term.proofs.HeldByChecked.{params_named}
use Rattle.safl_timing.specs.Names.{shown_names}
use Rattle.safl_timing.proofs.Naming.{shown_more}
use Rattle.safl_timing.proofs.names.main_params.Goals as goal

pub params-preserved : goal.params-preserved
params-preserved c =
    let params : List (List ℕ) = c.args.c.now.names.params c.main-main.result in
    ap shown_names c.in_ok-push.ensures.items
    ∙ (shown_more c.params.names.items c.in_ok-name.name
    ∙ (ap (λ (l : List (List ℕ)). l ++ c.in_ok-name.name.items ∷ []) c.params.invariant
    ∙ (ap (λ (x : List ℕ). take c.params.i params ++ x ∷ []) c.in_ok-name.ensures.items
    ∙ sym (take_next params c.params.i c.param_name.result.now c.param_name.ensures))))

pub returns : goal.returns
returns c =
    c.params.invariant
    ∙ (take_all c.params.i (c.args.c.now.names.params c.main-main.result)
    (let a = c.params-test.false in let b = c.params-i-end.ensures.count in let d = params_named c.args.c.now c.main-main.result in omega (arith, a, b, d))
    ∙ ap (λ (k : ℕ). c.args.c.now.names.params k) c.main-main.ensures.number)
