use Rattle.safl_check.proofs.Common.{Definition, Fault, Some, ap, functions_max, limit, shown_definition, sym, ◌∙◌}
use Rattle.std.specs.Prelude.{ℕ, Option}
use Rattle.safl_check.proofs.LimitsInOrder.{excess_some}
use Rattle.safl_check.proofs.limits.find_function_fault.Goals as goal

pub returns : goal.returns
returns c =
    let found = c.in_ok-def.ensures.lookup in
    ap (λ (f : Fault). Some f) c.past_limit.ensures
    ∙ sym (ap (λ (o : Option ℕ). limit 1 functions_max o) (excess_some shown_definition (λ (d : Definition). d.place) c.args.defs.now 1000 c.in_ok-def.def.now found.0 found.1))
