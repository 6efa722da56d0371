use Rattle.std.proofs.Common.{◌≡◌, ℕ, suc, ◌-◌, length, Some, sym, ap, ◌∙◌, arith, slice_get, vec_len}
use Rattle.safl_word.proofs.Lists.{get_read}
use Rattle.safl_order.specs.declared.walk.Frame.{Frame}
use Rattle.safl_order.specs.Order.{IsWire}
use Rattle.safl_order.specs.Walk.{Looks}
use Rattle.safl_order.proofs.Moves.{top_looks, moves_pass, moves_open, moves_loop, few_places}
use Rattle.safl_order.proofs.walk.Walk.look.Goals as goal

pub open-requires-clause-room : goal.open-requires-clause-room
open-requires-clause-room c =
    let a = few_places c.args.net.now c.args.self.now.wires.items c.args.self.now.marks.items c.args.self.now.stack.items c.requires.walks in
    let b = c.args.self.now.stack.ok.0 in
    omega (arith, a.1, b)

pub returns-in-Unseen-clause-walks : goal.returns-in-Unseen-clause-walks
returns-in-Unseen-clause-walks c =
    let n = c.args.net.now in
    let o = c.args.self.now in
    let w = c.requires.walks in
    let t = c.args.t in
    let here = get_read o.marks.items t.0 c.index.result.now (let a = w.long in let b = c.requires.known in omega (arith, a, b)) c.index.ensures in
    let top = c.requires.looks in
    let wire : IsWire n t.0 = sym c.kind.ensures ∙ c.in-Wire.is in
    let looks : (k : ℕ) (f : Frame) → slice_get o.stack.items k ≡ Some f → suc k ≡ length o.stack.items → Looks n f t.0 = λ k f e h. top_looks n o.stack.items t.0 top k f e h in
    (moves_open n o.wires.items c.open.new.self.wires.items o.marks.items c.open.new.self.marks.items o.stack.items c.open.new.self.stack.items t
    c.open.result w wire (here ∙ ap Some c.in-Unseen.is) looks
    c.open.ensures.wires c.open.ensures.marks c.open.ensures.stack c.open.ensures.refused).walks

pub returns-in-Unseen-clause-goes : goal.returns-in-Unseen-clause-goes
returns-in-Unseen-clause-goes c =
    let n = c.args.net.now in
    let o = c.args.self.now in
    let w = c.requires.walks in
    let t = c.args.t in
    let here = get_read o.marks.items t.0 c.index.result.now (let a = w.long in let b = c.requires.known in omega (arith, a, b)) c.index.ensures in
    let top = c.requires.looks in
    let wire : IsWire n t.0 = sym c.kind.ensures ∙ c.in-Wire.is in
    let looks : (k : ℕ) (f : Frame) → slice_get o.stack.items k ≡ Some f → suc k ≡ length o.stack.items → Looks n f t.0 = λ k f e h. top_looks n o.stack.items t.0 top k f e h in
    (moves_open n o.wires.items c.open.new.self.wires.items o.marks.items c.open.new.self.marks.items o.stack.items c.open.new.self.stack.items t
    c.open.result w wire (here ∙ ap Some c.in-Unseen.is) looks
    c.open.ensures.wires c.open.ensures.marks c.open.ensures.stack c.open.ensures.refused).goes

pub returns-in-Unseen-clause-less : goal.returns-in-Unseen-clause-less
returns-in-Unseen-clause-less c =
    let n = c.args.net.now in
    let o = c.args.self.now in
    let w = c.requires.walks in
    let t = c.args.t in
    let here = get_read o.marks.items t.0 c.index.result.now (let a = w.long in let b = c.requires.known in omega (arith, a, b)) c.index.ensures in
    let top = c.requires.looks in
    let wire : IsWire n t.0 = sym c.kind.ensures ∙ c.in-Wire.is in
    let looks : (k : ℕ) (f : Frame) → slice_get o.stack.items k ≡ Some f → suc k ≡ length o.stack.items → Looks n f t.0 = λ k f e h. top_looks n o.stack.items t.0 top k f e h in
    (moves_open n o.wires.items c.open.new.self.wires.items o.marks.items c.open.new.self.marks.items o.stack.items c.open.new.self.stack.items t
    c.open.result w wire (here ∙ ap Some c.in-Unseen.is) looks
    c.open.ensures.wires c.open.ensures.marks c.open.ensures.stack c.open.ensures.refused).less

pub returns-in-Open-clause-stop : goal.returns-in-Open-clause-stop
returns-in-Open-clause-stop c =
    let n = c.args.net.now in
    let o = c.args.self.now in
    let w = c.requires.walks in
    let t = c.args.t in
    let here = get_read o.marks.items t.0 c.index.result.now (let a = w.long in let b = c.requires.known in omega (arith, a, b)) c.index.ensures in
    moves_loop n o.wires.items o.marks.items o.stack.items t.0 c.in-Open.k w c.requires.looks (here ∙ ap Some c.in-Open.is)

pub returns-in-Done-clause-walks : goal.returns-in-Done-clause-walks
returns-in-Done-clause-walks c =
    let n = c.args.net.now in
    let o = c.args.self.now in
    let w = c.requires.walks in
    let t = c.args.t in
    let here = get_read o.marks.items t.0 c.index.result.now (let a = w.long in let b = c.requires.known in omega (arith, a, b)) c.index.ensures in
    let last = vec_len o.stack - 1 in
    let long : suc last ≡ length o.stack.items = (let a = o.stack.ok.0 in let b = c.requires.looks.is_top.last in omega (arith, a, b)) in
    (moves_pass n o.wires.items c.pass.new.self.wires.items o.marks.items c.pass.new.self.marks.items o.stack.items c.pass.new.self.stack.items t.0
    last w c.requires.looks (λ v. (c.in-Done.field-0, here ∙ ap Some c.in-Done.is))
    c.pass.ensures.wires c.pass.ensures.marks long c.pass.ensures.stack).walks

pub returns-in-Done-clause-less : goal.returns-in-Done-clause-less
returns-in-Done-clause-less c =
    let n = c.args.net.now in
    let o = c.args.self.now in
    let w = c.requires.walks in
    let t = c.args.t in
    let here = get_read o.marks.items t.0 c.index.result.now (let a = w.long in let b = c.requires.known in omega (arith, a, b)) c.index.ensures in
    let last = vec_len o.stack - 1 in
    let long : suc last ≡ length o.stack.items = (let a = o.stack.ok.0 in let b = c.requires.looks.is_top.last in omega (arith, a, b)) in
    (moves_pass n o.wires.items c.pass.new.self.wires.items o.marks.items c.pass.new.self.marks.items o.stack.items c.pass.new.self.stack.items t.0
    last w c.requires.looks (λ v. (c.in-Done.field-0, here ∙ ap Some c.in-Done.is))
    c.pass.ensures.wires c.pass.ensures.marks long c.pass.ensures.stack).less

pub returns-in_default : goal.returns-in_default
returns-in_default c =
    let n = c.args.net.now in
    let o = c.args.self.now in
    let w = c.requires.walks in
    let t = c.args.t in
    let last = vec_len o.stack - 1 in
    let long : suc last ≡ length o.stack.items = (let a = o.stack.ok.0 in let b = c.requires.looks.is_top.last in omega (arith, a, b)) in
    let m = moves_pass n o.wires.items c.pass-in_default.new.self.wires.items o.marks.items c.pass-in_default.new.self.marks.items o.stack.items
    c.pass-in_default.new.self.stack.items t.0 last w c.requires.looks (λ v. absurd (c.in_default.not-Wire (c.kind.ensures ∙ v)))
    c.pass-in_default.ensures.wires c.pass-in_default.ensures.marks long c.pass-in_default.ensures.stack in
    record { walks = m.walks; goes = m.goes; less = m.less; stop = tt }
