use Rattle.std.proofs.Common.{length, Some, sym, ap, ◌∙◌, arith}
use Rattle.safl_word.proofs.Lists.{get_read}
use Rattle.safl_order.proofs.Moves.{done_root, done_after, seen_open, seen_other, no_looks, moves_open}
use Rattle.safl_order.proofs.Steps.{goes_on, goes_none}
use Rattle.safl_order.proofs.walk.Walk.visit.Goals as goal

pub drain-requires : goal.drain-requires
drain-requires c =
    let n = c.args.net.now in
    let o = c.args.self.now in
    let w = c.requires.walks in
    let t = c.args.root in
    let here = get_read o.marks.items t.0 c.index.result.now (let a = w.long in let b = c.requires.known in omega (arith, a, b)) c.index.ensures in
    let m = moves_open n o.wires.items c.open.new.self.wires.items o.marks.items c.open.new.self.marks.items o.stack.items c.open.new.self.stack.items
    t c.open.result w (sym c.kind.ensures ∙ c.in-Wire.is) (here ∙ ap Some c.in-Unseen.is)
    (no_looks n o.stack.items t.0 c.requires.empty) c.open.ensures.wires c.open.ensures.marks c.open.ensures.stack c.open.ensures.refused in
    m.walks

pub returns-in_ok-open-in-Unseen-clause-goes : goal.returns-in_ok-open-in-Unseen-clause-goes
returns-in_ok-open-in-Unseen-clause-goes c =
    let n = c.args.net.now in
    let o = c.args.self.now in
    let w = c.requires.walks in
    let t = c.args.root in
    let here = get_read o.marks.items t.0 c.index.result.now (let a = w.long in let b = c.requires.known in omega (arith, a, b)) c.index.ensures in
    let m = moves_open n o.wires.items c.open.new.self.wires.items o.marks.items c.open.new.self.marks.items o.stack.items c.open.new.self.stack.items
    t c.open.result w (sym c.kind.ensures ∙ c.in-Wire.is) (here ∙ ap Some c.in-Unseen.is)
    (no_looks n o.stack.items t.0 c.requires.empty) c.open.ensures.wires c.open.ensures.marks c.open.ensures.stack c.open.ensures.refused in
    goes_on o.marks.items c.open.new.self.marks.items c.drain.new.self.marks.items m.goes c.drain.ensures.goes

pub returns-in_ok-open-in-Unseen-clause-done : goal.returns-in_ok-open-in-Unseen-clause-done
returns-in_ok-open-in-Unseen-clause-done c =
    let n = c.args.net.now in
    let o = c.args.self.now in
    let w = c.requires.walks in
    let t = c.args.root in
    let here = get_read o.marks.items t.0 c.index.result.now (let a = w.long in let b = c.requires.known in omega (arith, a, b)) c.index.ensures in
    done_after c.drain.result n c.drain.new.self.wires.items c.drain.new.self.marks.items c.drain.new.self.stack.items t.0 c.drain.ensures.walks c.drain.ensures.empty c.requires.known
    (seen_open c.open.result c.in_ok-open-in-Unseen.field-0 o.marks.items c.open.new.self.marks.items c.drain.new.self.marks.items t.0
    (length o.stack.items) c.in_ok-open-in-Unseen.was c.open.ensures.marks (here ∙ ap Some c.in-Unseen.is) c.drain.ensures.goes)

pub returns-in_default-index : goal.returns-in_default-index
returns-in_default-index c =
    let n = c.args.net.now in
    let o = c.args.self.now in
    let w = c.requires.walks in
    let t = c.args.root in
    let here = get_read o.marks.items t.0 c.index.result.now (let a = w.long in let b = c.requires.known in omega (arith, a, b)) c.index.ensures in
    record {
      walks = w;
      empty = c.requires.empty;
      goes = goes_none o.marks.items;
      done = λ v. done_root n o.wires.items o.marks.items o.stack.items t.0 w c.requires.empty c.requires.known (seen_other o.marks.items t.0 c.index.result.now here c.in_default-index.not-Unseen);
      stop = tt;
    }
