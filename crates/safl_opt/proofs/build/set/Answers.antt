use Rattle.std.proofs.Common.{sym}
use Rattle.safl_opt.proofs.Setting.{turn_known, input_set}
use Rattle.safl_opt.proofs.build.set.Goals as goal

pub kind-requires : goal.kind-requires
kind-requires c = turn_known c.args.old.now c.signals-count.ensures.netlist c.args.values.now c.args.made.now c.args.i c.args.from.0 c.args.net.now c.requires

pub returns-in-Input : goal.returns-in-Input
returns-in-Input c = input_set c.args.old.now c.args.values.now c.args.made.now c.args.i c.args.from.0 c.args.net.now c.requires (sym c.in-Input.ensures)
