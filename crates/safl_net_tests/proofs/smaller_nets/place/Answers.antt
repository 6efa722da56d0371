use Rattle.safl_net_tests.proofs.Keeping.{tidy_placed}
use Rattle.safl_net_tests.proofs.smaller_nets.place.Goals as goal

pub returns-in-Input : goal.returns-in-Input
returns-in-Input c = tidy_placed c.input.result c.args.net.now _ _ c.input.ensures.added c.input.ensures.refused c.requires.tidy c.requires.named

pub returns-in-Reg : goal.returns-in-Reg
returns-in-Reg c = tidy_placed c.reg.result c.args.net.now _ _ c.reg.ensures.added c.reg.ensures.refused c.requires.tidy c.requires.named

pub returns-in-Wire : goal.returns-in-Wire
returns-in-Wire c = tidy_placed c.wire.result c.args.net.now _ _ c.wire.ensures.added c.wire.ensures.refused c.requires.tidy c.requires.named
