use Rattle.safl_check.proofs.Common.{Fault, Some, ap, limit, or_else, shown_parameter, sym, ◌∙◌}
use Rattle.std.specs.Prelude.{ℕ, Option}
use Rattle.safl_tree.specs.Tree.{Parameter}
use Rattle.safl_word.specs.Limits.{bindings_max, params_max}
use Rattle.safl_check.proofs.LimitsInOrder.{excess_some, excess_none}
use Rattle.safl_check.proofs.limits.find_list_fault.Goals as goal

pub returns-in-Some : goal.returns-in-Some
returns-in-Some c =
    let found = c.in-Some.ensures.lookup in
    ap (λ (f : Fault). Some f) c.past_limit.ensures
    ∙ sym (ap (λ (o : Option ℕ). or_else (limit 2 params_max o) (limit 3 bindings_max c.args.long_let))
    (excess_some shown_parameter (λ (p : Parameter). p.place) c.args.params.now 16 c.in-Some.param.now found.0 found.1))

pub returns-in_err-place : goal.returns-in_err-place
returns-in_err-place c =
    let few = excess_none shown_parameter (λ (p : Parameter). p.place) c.args.params.now 16 c.in_default.ensures.lookup.0 in
    c.from_residual.ensures ∙ ap (λ (o : Option ℕ). limit 3 bindings_max o) (sym c.in_err-place.was)
    ∙ sym (ap (λ (o : Option ℕ). or_else (limit 2 params_max o) (limit 3 bindings_max c.args.long_let)) few)

pub returns : goal.returns
returns c =
    let few = excess_none shown_parameter (λ (p : Parameter). p.place) c.args.params.now 16 c.in_default.ensures.lookup.0 in
    ap (λ (f : Fault). Some f) c.past_limit-2.ensures ∙ ap (λ (o : Option ℕ). limit 3 bindings_max o) (sym c.in_ok-place.was)
    ∙ sym (ap (λ (o : Option ℕ). or_else (limit 2 params_max o) (limit 3 bindings_max c.args.long_let)) few)
