use Rattle.safl_vwrite.proofs.Signals.{next_known}
use Rattle.safl_vwrite.proofs.statements.update_register.Goals as goal

pub name-requires-in-Some : goal.name-requires-in-Some
name-requires-in-Some c = next_known c.args.net.now c.args.s.0 c.in-Some.next.0 c.requires.netlist c.requires.known c.in-Some.ensures
