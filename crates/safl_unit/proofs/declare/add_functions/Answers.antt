use Rattle.safl_unit.proofs.Common.{arith, function_lines, open_register}
use Rattle.safl_circuit.specs.Layout.{lines}
use Rattle.safl_unit.proofs.layout.Declaring.{lines_count}
use Rattle.safl_unit.proofs.layout.Pinning.{lines_start, lines_next, none_pinned_at, more_pinned_at, functions_count}
use Rattle.safl_unit.proofs.layout.Adding.{lines_at}
use Rattle.safl_unit.proofs.declare.add_functions.Goals as goal

pub loop-f-init : goal.loop-f-init
loop-f-init c = record {
  net = lines_start c.args.net.now open_register (function_lines c.args.c.now.program c.args.c.now.names);
  pinned = none_pinned_at c.args.c.now.program c.args.c.now.names _ _ _ c.new-units.ensures.items c.new-members.ensures.items;
}

pub add_function-requires-clause-room : goal.add_function-requires-clause-room
add_function-requires-clause-room c =
    let a = functions_count c.args.c.now c.functions-f-end.ensures.checked c.args.net.now c.loop-f.net c.loop-f.f c.loop-f.invariant.net in
    let b = c.functions-f-end.ensures.checked.limits.params c.loop-f.f in
    let l = c.loop-f-test.true in
    let e = c.functions-f-end.ensures.count in
    let r = c.requires in
    omega (arith, a, b, l, e, r)

pub add_function-requires-clause-free : goal.add_function-requires-clause-free
add_function-requires-clause-free c =
    let l = c.loop-f-test.true in
    let e = c.functions-f-end.ensures.count in
    lines_at open_register c.args.net.now c.loop-f.net (function_lines c.args.c.now.program c.args.c.now.names) c.loop-f.f
    c.args.c.now.program.functions (omega (arith, l, e)) c.requires.free c.loop-f.invariant.net

pub loop-f-preserved : goal.loop-f-preserved
loop-f-preserved c =
    let l = c.loop-f-test.true in
    let e = c.functions-f-end.ensures.count in
    record {
      net = lines_next c.args.net.now c.loop-f.net c.add_function.new.net open_register
          (function_lines c.args.c.now.program c.args.c.now.names) c.loop-f.f c.loop-f.invariant.net c.in_ok-pins.ensures.added;
      pinned = more_pinned_at c.args.c.now c.functions-f-end.ensures.checked _ c.loop-f.f _ c.loop-f.units.items _ c.as_slice.result.now
          c.loop-f.members.items _ c.in_ok-pins.pins.unit c.in_ok-pins.pins.member (omega (arith, l, e))
          c.loop-f.invariant.pinned c.in_ok-pins.ensures.pinned c.as_slice.ensures.value c.in_ok-push.ensures.items c.in_ok-push-2.ensures.items
          (lines_count c.args.net.now c.loop-f.net open_register (lines (function_lines c.args.c.now.program c.args.c.now.names) c.loop-f.f) c.loop-f.invariant.net);
    }
