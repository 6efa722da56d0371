use Rattle.std.proofs.Common.{◌++◌, codes, decimal, ap, ◌∙◌}
use Rattle.safl_word.proofs.Lists.{joined_three}
use Rattle.safl_tool.proofs.walk.push_short.Goals as goal

pub returns : goal.returns
returns c =
    joined_three c.args.text.now.items c.push.new.out.items c.push_decimal.new.out.items c.push-2.new.out.items (codes "no result in ") (decimal c.args.steps) (codes " events\n")
    c.in_ok-push.ensures (c.in_ok-push_decimal.ensures.ok ∙ ap (λ k. c.push.new.out.items ++ decimal k) c.from.ensures) c.in_ok-push-2.ensures
