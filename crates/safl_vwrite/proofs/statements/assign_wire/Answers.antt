use Rattle.safl_vwrite.proofs.Signals.{cell_known}
use Rattle.safl_vwrite.proofs.statements.assign_wire.Goals as goal

pub push_cell-requires : goal.push_cell-requires
push_cell-requires c = cell_known c.args.net.now c.args.s.0 c.in-Some.cell.now c.requires.netlist c.requires.known c.in-Some.ensures
