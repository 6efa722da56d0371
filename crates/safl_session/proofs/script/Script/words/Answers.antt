use Rattle.std.proofs.Common.{◌≤◌, ◌+◌, ◌*◌, Some, length, take, drop, slice_get, ap, sym, ◌∙◌, arith, rules}
use Rattle.safl_session.proofs.LinesOfScripts.{call_below, call_within, call_of, call_wide}
use Rattle.safl_session.proofs.script.Script.words.Goals as goal

pub overflow_mul-start : goal.overflow_mul-start
overflow_mul-start c =
    let below = call_below c.self.inside.calls c.self.inside.arity c.self.inside.words.items c.args.self.now c.args.call c.self.view_is c.requires in
    let within = call_within c.self.inside.calls c.self.inside.arity c.args.call below in
    let long = c.self.invariant in
    let held = c.self.inside.words.ok in
    let small = c.self.inside.words.small in
    omega (arith, within, long, held.0, held.1, small)

pub overflow_add-result : goal.overflow_add-result
overflow_add-result c =
    let below = call_below c.self.inside.calls c.self.inside.arity c.self.inside.words.items c.args.self.now c.args.call c.self.view_is c.requires in
    let within = call_within c.self.inside.calls c.self.inside.arity c.args.call below in
    let long = c.self.invariant in
    let held = c.self.inside.words.ok in
    let small = c.self.inside.words.small in
    omega (arith, within, long, held.0, held.1, small)

pub offset_bounds-deref-start : goal.offset_bounds-deref-start
offset_bounds-deref-start c =
    let below = call_below c.self.inside.calls c.self.inside.arity c.self.inside.words.items c.args.self.now c.args.call c.self.view_is c.requires in
    let within = call_within c.self.inside.calls c.self.inside.arity c.args.call below in
    let long = c.self.invariant in
    let value = ap length c.deref.ensures.value in
    let room : c.args.call * c.self.inside.arity + c.self.inside.arity ≤ length c.deref.result.now = omega (arith, within, long, value) in
    search (rules, room)

pub slice_bounds-result-end : goal.slice_bounds-result-end
slice_bounds-result-end c =
    let below = call_below c.self.inside.calls c.self.inside.arity c.self.inside.words.items c.args.self.now c.args.call c.self.view_is c.requires in
    let within = call_within c.self.inside.calls c.self.inside.arity c.args.call below in
    let long = c.self.invariant in
    let value = ap length c.deref.ensures.value in
    let room : c.args.call * c.self.inside.arity + c.self.inside.arity ≤ length c.deref.result.now = omega (arith, within, long, value) in
    search (rules, room)

pub returns : goal.returns
returns c =
    let arity = c.self.inside.arity in
    let start = c.args.call * arity in
    let below = call_below c.self.inside.calls arity c.self.inside.words.items c.args.self.now c.args.call c.self.view_is c.requires in
    ap (λ cs. slice_get cs c.args.call) (sym c.self.view_is) ∙ call_of c.self.inside.calls arity c.self.inside.words.items c.args.call below
    ∙ ap (λ l. Some (take arity (drop start l))) (sym c.deref.ensures.value) ∙ ap (λ n. Some (take n (drop start c.deref.result.now))) (call_wide start arity)
