use Rattle.safl_unit.proofs.Common.{CheckedProgram, arith, map, open_wire, subst, suc, with_signals, ◌≡◌}
use Rattle.safl_circuit.specs.Layout.{lines, function_wires, site_wires}
use Rattle.safl_unit.proofs.layout.Declaring.{lines_count}
use Rattle.safl_unit.proofs.layout.Pinning.{body_wires_count, few_calls}
use Rattle.safl_unit.proofs.declare.add_wires.Goals as goal

pub add_all_call_wires-requires-clause-room : goal.add_all_call_wires-requires-clause-room
add_all_call_wires-requires-clause-room c =
    let bodies = subst (λ (x : CheckedProgram). c.add_all_body_wires.new.net ≡ with_signals c.args.net.now
    (map open_wire (lines (function_wires x.names) x.program.functions))) c.checked.ensures.same c.in_ok-add_all_body_wires.ensures in
    let a = lines_count c.args.net.now c.add_all_body_wires.new.net open_wire (lines (function_wires c.args.p.now.names) c.args.p.now.program.functions) bodies in
    let b = body_wires_count c.args.p.now.names c.args.p.now.program.functions in
    let r = c.requires.room in
    omega (arith, a, b, r)

pub add_wire-requires-clause-room : goal.add_wire-requires-clause-room
add_wire-requires-clause-room c =
    let bodies = subst (λ (x : CheckedProgram). c.add_all_body_wires.new.net ≡ with_signals c.args.net.now
    (map open_wire (lines (function_wires x.names) x.program.functions))) c.checked.ensures.same c.in_ok-add_all_body_wires.ensures in
    let a = lines_count c.args.net.now c.add_all_body_wires.new.net open_wire (lines (function_wires c.args.p.now.names) c.args.p.now.program.functions) bodies in
    let b = body_wires_count c.args.p.now.names c.args.p.now.program.functions in
    let d = lines_count c.add_all_body_wires.new.net c.add_all_call_wires.new.net open_wire
    (lines (site_wires c.args.p.now.program c.args.p.now.choice) (suc c.args.p.now.program.sites))
    c.in_ok-add_all_call_wires.ensures in
    let e = few_calls c.args.p.now.program c.args.p.now.choice (suc c.args.p.now.program.sites) in
    let r = c.requires.room in
    omega (arith, a, b, d, e, r)
