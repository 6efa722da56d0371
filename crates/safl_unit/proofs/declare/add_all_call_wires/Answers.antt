use Rattle.safl_unit.proofs.Common.{CheckedProgram, ap, arith, open_wire, refl, suc, ◌∙◌}
use Rattle.safl_circuit.specs.Layout.{lines, site_wires}
use Rattle.safl_unit.proofs.layout.Declaring.{lines_count}
use Rattle.safl_unit.proofs.layout.Pinning.{lines_from_one, lines_next, few_calls}
use Rattle.safl_unit.proofs.layout.Adding.{lines_at}
use Rattle.safl_unit.proofs.declare.add_all_call_wires.Goals as goal

pub loop-k-init : goal.loop-k-init
loop-k-init c = lines_from_one c.args.net.now open_wire (site_wires c.args.p.now.program c.args.p.now.choice) refl

pub add_call_wires-requires-clause-room : goal.add_call_wires-requires-clause-room
add_call_wires-requires-clause-room c =
    let a = lines_count c.args.net.now c.loop-k.net open_wire (lines (site_wires c.args.p.now.program c.args.p.now.choice) c.loop-k.k) c.loop-k.invariant in
    let b = few_calls c.args.p.now.program c.args.p.now.choice c.loop-k.k in
    let l = c.loop-k-test.true in
    let e = c.sites-k-end.ensures.count ∙ ap (λ (x : CheckedProgram). x.program.sites) c.program-c.ensures.same in
    let r = c.requires.room in
    omega (arith, a, b, l, e, r)

pub add_call_wires-requires-clause-free : goal.add_call_wires-requires-clause-free
add_call_wires-requires-clause-free c =
    let l = c.loop-k-test.true in
    let e = c.sites-k-end.ensures.count ∙ ap (λ (x : CheckedProgram). x.program.sites) c.program-c.ensures.same in
    lines_at open_wire c.args.net.now c.loop-k.net (site_wires c.args.p.now.program c.args.p.now.choice) c.loop-k.k
    (suc c.args.p.now.program.sites) (omega (arith, l, e)) c.requires.free c.loop-k.invariant

pub loop-k-preserved : goal.loop-k-preserved
loop-k-preserved c =
    lines_next c.args.net.now c.loop-k.net c.add_call_wires.new.net open_wire (site_wires c.args.p.now.program c.args.p.now.choice)
    c.loop-k.k c.loop-k.invariant c.in_ok-add_call_wires.ensures
