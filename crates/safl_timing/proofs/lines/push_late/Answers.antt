use Rattle.std.proofs.Common.{◌++◌, codes, decimal, ap, ◌∙◌}
use Rattle.safl_timing.proofs.Joined.{more}
use Rattle.safl_timing.proofs.lines.push_late.Goals as goal

pub returns : goal.returns
returns c =
    let old = c.args.text.now.items in
    let a = codes "no result in " in
    let b = decimal c.args.budget in
    more old (a ++ b) (codes " calls\n") _ _
    (more old a b _ _ c.in_ok-extend_from_slice.ensures.items (c.in_ok-push_decimal.ensures.ok ∙ ap (λ k. c.extend_from_slice.new.self.items ++ decimal k) c.from.ensures))
    c.in_ok-extend_from_slice-2.ensures.items
