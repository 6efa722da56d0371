use Rattle.std.proofs.Common.{List, ◌-◌, length, take, drop, ap, ◌∙◌}
use Rattle.std.proofs.lemmas.List.{take_rest}
use Rattle.safl_order.specs.declared.walk.Frame.{Frame}
use Rattle.safl_order.proofs.Loops.{turned_made}
use Rattle.safl_order.proofs.walk.Walk.cycle.Goals as goal

pub returns : goal.returns
returns c =
    let all : List Frame = c.deref.result.now in
    let fs : List Frame = take (length all - c.args.place) (drop c.args.place all) in
    turned_made fs (drop c.args.place c.args.self.now.stack.items) c.least-first.result c.new-wires.result.items c.push_wires.new.wires.items c.push_wires-2.new.wires.items
    (take_rest all c.args.place ∙ ap (drop c.args.place) c.deref.ensures.value)
    c.new-wires.ensures.items c.in_ok-push_wires.ensures c.in_ok-push_wires-2.ensures c.least-first.ensures.within c.least-first.ensures.least
