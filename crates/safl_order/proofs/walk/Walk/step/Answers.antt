use Rattle.std.proofs.Common.{◌≡◌, suc, ◌-◌, length, Some, arith, slice_get, vec_len}
use Rattle.safl_order.specs.declared.walk.Frame.{Frame}
use Rattle.safl_order.proofs.Moves.{last_read, moves_close, look_in, number_some, number_none, frame_in, frame_few}
use Rattle.safl_order.proofs.walk.Walk.step.Goals as goal

pub operand-requires-clause-known : goal.operand-requires-clause-known
operand-requires-clause-known c =
    let n = c.args.net.now in
    let o = c.args.self.now in
    let w = c.requires.walks in
    let top : Frame = c.index-top.result.now in
    let last = vec_len o.stack - 1 in
    let here : slice_get o.stack.items last ≡ Some top = last_read o.stack.items (vec_len o.stack) c.len.result top o.stack.ok.0 c.len.ensures c.requires.some c.index-top.ensures in
    frame_in n o.wires.items o.marks.items o.stack.items last top w here

pub look-requires-clause-known : goal.look-requires-clause-known
look-requires-clause-known c =
    look_in c.args.net.now c.index-top.result.now c.in-Some.t.0 c.requires.walks.made (number_some c.operand.result c.in-Some.t _ c.in-Some.is c.operand.ensures.operand)

pub close-requires-clause-known : goal.close-requires-clause-known
close-requires-clause-known c =
    let n = c.args.net.now in
    let o = c.args.self.now in
    let w = c.requires.walks in
    let top : Frame = c.index-top.result.now in
    let last = vec_len o.stack - 1 in
    let here : slice_get o.stack.items last ≡ Some top = last_read o.stack.items (vec_len o.stack) c.len.result top o.stack.ok.0 c.len.ensures c.requires.some c.index-top.ensures in
    let a = frame_in n o.wires.items o.marks.items o.stack.items last top w here in
    let b = w.long in
    let d = o.marks.ok.0 in
    omega (arith, a, b, d)

pub returns-in-None-clause-walks : goal.returns-in-None-clause-walks
returns-in-None-clause-walks c =
    let n = c.args.net.now in
    let o = c.args.self.now in
    let w = c.requires.walks in
    let top : Frame = c.index-top.result.now in
    let last = vec_len o.stack - 1 in
    let here : slice_get o.stack.items last ≡ Some top = last_read o.stack.items (vec_len o.stack) c.len.result top o.stack.ok.0 c.len.ensures c.requires.some c.index-top.ensures in
    let long : suc last ≡ length o.stack.items = (let a = o.stack.ok.0 in let b = c.requires.some in omega (arith, a, b)) in
    (moves_close n o.wires.items c.close.new.self.wires.items o.marks.items c.close.new.self.marks.items o.stack.items c.close.new.self.stack.items top last c.close.result w here long
    (number_none c.operand.result _ c.in-None.is c.operand.ensures.operand)
    (let a = frame_few n o.wires.items o.marks.items o.stack.items last top w here in omega (arith, a))
    c.close.ensures.wires c.close.ensures.marks c.close.ensures.stack c.close.ensures.refused).walks

pub returns-in-None-clause-goes : goal.returns-in-None-clause-goes
returns-in-None-clause-goes c =
    let n = c.args.net.now in
    let o = c.args.self.now in
    let w = c.requires.walks in
    let top : Frame = c.index-top.result.now in
    let last = vec_len o.stack - 1 in
    let here : slice_get o.stack.items last ≡ Some top = last_read o.stack.items (vec_len o.stack) c.len.result top o.stack.ok.0 c.len.ensures c.requires.some c.index-top.ensures in
    let long : suc last ≡ length o.stack.items = (let a = o.stack.ok.0 in let b = c.requires.some in omega (arith, a, b)) in
    (moves_close n o.wires.items c.close.new.self.wires.items o.marks.items c.close.new.self.marks.items o.stack.items c.close.new.self.stack.items top last c.close.result w here long
    (number_none c.operand.result _ c.in-None.is c.operand.ensures.operand)
    (let a = frame_few n o.wires.items o.marks.items o.stack.items last top w here in omega (arith, a))
    c.close.ensures.wires c.close.ensures.marks c.close.ensures.stack c.close.ensures.refused).goes

pub returns-in-None-clause-less : goal.returns-in-None-clause-less
returns-in-None-clause-less c =
    let n = c.args.net.now in
    let o = c.args.self.now in
    let w = c.requires.walks in
    let top : Frame = c.index-top.result.now in
    let last = vec_len o.stack - 1 in
    let here : slice_get o.stack.items last ≡ Some top = last_read o.stack.items (vec_len o.stack) c.len.result top o.stack.ok.0 c.len.ensures c.requires.some c.index-top.ensures in
    let long : suc last ≡ length o.stack.items = (let a = o.stack.ok.0 in let b = c.requires.some in omega (arith, a, b)) in
    (moves_close n o.wires.items c.close.new.self.wires.items o.marks.items c.close.new.self.marks.items o.stack.items c.close.new.self.stack.items top last c.close.result w here long
    (number_none c.operand.result _ c.in-None.is c.operand.ensures.operand)
    (let a = frame_few n o.wires.items o.marks.items o.stack.items last top w here in omega (arith, a))
    c.close.ensures.wires c.close.ensures.marks c.close.ensures.stack c.close.ensures.refused).less
