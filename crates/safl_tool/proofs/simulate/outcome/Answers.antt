use Rattle.std.proofs.Common.{◌≡◌, [], ◌++◌, rules, ap, ◌∙◌}
use Rattle.safl_tool.specs.Printed.{outcome_lines}
use Rattle.safl_tool.proofs.Giving.{outcome_given}
use Rattle.safl_tool.proofs.simulate.outcome.Goals as goal

pub returns : goal.returns
returns c =
    let empty : c.new-text.result.items ≡ [] = search rules in
    outcome_given [] c.args.limit c.args.done c.in_ok-comes.comes c.push_outcome.new.text.items c.in_ok-comes.ensures.comes
    (c.in_ok-comes.ensures.lines ∙ ap (λ l. l ++ outcome_lines c.args.limit c.args.done) empty)
