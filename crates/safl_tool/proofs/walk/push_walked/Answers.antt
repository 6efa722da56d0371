use Rattle.std.proofs.Common.{◌++◌, codes, decimal, ap, ◌∙◌}
use Rattle.safl_tool.proofs.Joining.{joined7}
use Rattle.safl_tool.proofs.walk.push_walked.Goals as goal

pub returns : goal.returns
returns c =
    joined7 c.args.text.now.items c.push.new.out.items c.push_decimal.new.out.items c.push-2.new.out.items c.push_decimal-2.new.out.items
    c.push-3.new.out.items c.push_decimal-3.new.out.items c.push-4.new.out.items
    (codes "result ") (decimal c.args.word.bits) (codes "\nevents ") (decimal c.args.events) (codes "\nunits ") (decimal c.args.units) (codes "\n")
    c.in_ok-push.ensures (c.in_ok-push_decimal.ensures.ok ∙ ap (λ k. c.push.new.out.items ++ decimal k) c.bits.ensures.value) c.in_ok-push-2.ensures
    (c.in_ok-push_decimal-2.ensures.ok ∙ ap (λ k. c.push-2.new.out.items ++ decimal k) c.from.ensures) c.in_ok-push-3.ensures
    (c.in_ok-push_decimal-3.ensures.ok ∙ ap (λ k. c.push-3.new.out.items ++ decimal k) c.from-2.ensures) c.in_ok-push-4.ensures
