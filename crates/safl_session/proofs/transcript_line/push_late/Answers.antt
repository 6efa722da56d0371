use Rattle.std.proofs.Common.{◌++◌, codes, decimal, ap, ◌∙◌}
use Rattle.safl_word.proofs.Lists.{joined_three}
use Rattle.safl_session.proofs.transcript_line.push_late.Goals as goal

pub returns : goal.returns
returns c =
    joined_three c.args.text.now.items c.extend_from_slice.new.self.items c.push_decimal.new.out.items c.extend_from_slice-2.new.self.items
    (codes "no result in ") (decimal c.args.limit) (codes " cycles\n")
    c.in_ok-extend_from_slice.ensures.items (c.in_ok-push_decimal.ensures.ok ∙ ap (λ k. c.extend_from_slice.new.self.items ++ decimal k) c.from.ensures) c.in_ok-extend_from_slice-2.ensures.items
