use Rattle.std.proofs.Common.{◌++◌, codes, decimal}
use Rattle.safl_timing.proofs.Joined.{more}
use Rattle.safl_timing.proofs.lines.push_figure.Goals as goal

pub returns : goal.returns
returns c =
    let old = c.args.text.now.items in
    let a = c.args.name.now in
    let b = decimal c.args.number in
    more old (a ++ b) (codes "\n") _ _
    (more old a b _ _ c.in_ok-extend_from_slice.ensures.items c.in_ok-push_decimal.ensures.ok)
    c.in_ok-extend_from_slice-2.ensures.items
