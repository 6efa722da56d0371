use Rattle.safl_vread.proofs.Common.{IsUtf8, rules}
use Rattle.safl_vread.proofs.GoodNames.{good_text}
use Rattle.safl_vread.proofs.make.add_output.Goals as goal

pub unreachable-requires : goal.unreachable-requires
unreachable-requires c = let text : IsUtf8 c.args.name.now = good_text c.args.name.now c.requires.good in search (rules, text)
