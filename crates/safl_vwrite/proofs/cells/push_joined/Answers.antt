use Rattle.std.proofs.Common.{inl, inr}
use Rattle.safl_vwrite.proofs.Texts.{nothing_more, other_joined}
use Rattle.safl_vwrite.proofs.cells.push_joined.Goals as goal

pub returns-in_default : goal.returns-in_default
returns-in_default c = nothing_more c.args.out.now.items _ (other_joined c.args.net.now c.args.operands.now (inl c.in_default.len_below))

pub returns-in_default-2 : goal.returns-in_default-2
returns-in_default-2 c = nothing_more c.args.out.now.items _ (other_joined c.args.net.now c.args.operands.now (inr c.in_default.len_at_least))
