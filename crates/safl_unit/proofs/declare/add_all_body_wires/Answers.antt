use Rattle.safl_unit.proofs.Common.{arith, open_wire}
use Rattle.safl_circuit.specs.Layout.{lines, function_wires}
use Rattle.safl_unit.proofs.layout.Declaring.{lines_count}
use Rattle.safl_unit.proofs.layout.Pinning.{lines_start, lines_next, body_wires_count}
use Rattle.safl_unit.proofs.layout.Adding.{lines_at}
use Rattle.safl_unit.proofs.declare.add_all_body_wires.Goals as goal

pub loop-f-init : goal.loop-f-init
loop-f-init c = lines_start c.args.net.now open_wire (function_wires c.args.c.now.names)

pub add_body_wires-requires-clause-room : goal.add_body_wires-requires-clause-room
add_body_wires-requires-clause-room c =
    let a = lines_count c.args.net.now c.loop-f.net open_wire (lines (function_wires c.args.c.now.names) c.loop-f.f) c.loop-f.invariant in
    let b = body_wires_count c.args.c.now.names c.loop-f.f in
    let l = c.loop-f-test.true in
    let e = c.functions-f-end.ensures.count in
    let r = c.requires.room in
    omega (arith, a, b, l, e, r)

pub add_body_wires-requires-clause-free : goal.add_body_wires-requires-clause-free
add_body_wires-requires-clause-free c =
    let l = c.loop-f-test.true in
    let e = c.functions-f-end.ensures.count in
    lines_at open_wire c.args.net.now c.loop-f.net (function_wires c.args.c.now.names) c.loop-f.f c.args.c.now.program.functions (omega (arith, l, e)) c.requires.free c.loop-f.invariant

pub loop-f-preserved : goal.loop-f-preserved
loop-f-preserved c = lines_next c.args.net.now c.loop-f.net c.add_body_wires.new.net open_wire (function_wires c.args.c.now.names) c.loop-f.f c.loop-f.invariant c.in_ok-add_body_wires.ensures
