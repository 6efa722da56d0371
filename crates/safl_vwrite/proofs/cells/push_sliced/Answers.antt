use Rattle.safl_vwrite.proofs.Texts.{nothing_more, other_sliced}
use Rattle.safl_vwrite.proofs.cells.push_sliced.Goals as goal

pub returns-in_default-2 : goal.returns-in_default-2
returns-in_default-2 c = nothing_more c.args.out.now.items _ (other_sliced c.args.net.now c.args.high c.args.low c.args.operands.now c.in_default.len_at_least)
