use Rattle.safl_aig.proofs.Common.{IfOk-weaker, cell_of, sym}
use Rattle.safl_aig.proofs.Connecting.{room_for, wire_grows, wire_made}
use Rattle.safl_aig.proofs.wires.wire_bits.Goals as goal

pub cell_bits-requires-clause-room : goal.cell_bits-requires-clause-room
cell_bits-requires-clause-room c = room_for c.args.net.now c.args.wire.0 (cell_of c.in-Some.cell.now) c.requires.netlist (sym c.in-Some.ensures) c.args.g.now c.requires.room

pub returns-clause-built : goal.returns-clause-built
returns-clause-built c = wire_grows c.args.net.now c.args.wire.0 (cell_of c.in-Some.cell.now) c.requires.netlist (sym c.in-Some.ensures) c.args.g.now c.cell_bits.new.g c.cell_bits.ensures.built

pub returns-clause-made : goal.returns-clause-made
returns-clause-made c = IfOk-weaker c.cell_bits.result _ _ (λ r h. wire_made c.args.net.now c.args.wire.0 (cell_of c.in-Some.cell.now)
    c.requires.netlist (sym c.in-Some.ensures) c.cell_bits.new.g c.args.table.now r.items h) c.cell_bits.ensures.made
