use Rattle.std.proofs.Common.{◌≡◌, ℕ, ◌+◌, ◌<◌, length, get_or, slice_set, arith, sym, ap, subst, ◌∙◌}
use Rattle.std.proofs.lemmas.List.{get_or_read}
use Rattle.safl_term.specs.Checked.{CheckedProgram}
use Rattle.safl_report.specs.Counting.{AreCalls}
use Rattle.safl_report.proofs.CountsByOne.{calls_more, calls_few}
use Rattle.safl_report.proofs.calls.count_calls.Goals as goal

pub loop-done-preserved : goal.loop-done-preserved
loop-done-preserved c =
    let C = c.args.p.now.program in
    let k = c.loop-done.done + 1 in
    let calls = c.loop-done.calls.items in
    let same = c.checked-c.ensures.same in
    let to : c.callee-callee.result ≡ C.callee k = c.callee-callee.ensures.number ∙ ap (λ (q : CheckedProgram). q.program.callee k) same in
    let functions : c.checked-c.result.now.program.functions ≡ C.functions = ap (λ (q : CheckedProgram). q.program.functions) same in
    let low : C.callee k < C.functions = omega (arith, to, functions, c.callee-callee.ensures.within) in
    let within : c.callee-callee.result < length calls = omega (arith, functions, c.callee-callee.ensures.within, c.loop-done.invariant.count) in
    let read : c.index_mut.result.now ≡ get_or calls c.callee-callee.result 0 = get_or_read calls _ _ within c.index_mut.ensures.value 0 in
    let more = calls_more C c.loop-done.done k calls c.loop-done.invariant (omega arith) low in
    subst (λ (m : ℕ). AreCalls C (c.loop-done.done + 1) (slice_set calls c.callee-callee.result (m + 1))) (sym read)
    (subst (λ (u : ℕ). AreCalls C (c.loop-done.done + 1) (slice_set calls u (get_or calls u 0 + 1))) (sym to) more)

pub overflow_add-index_mut : goal.overflow_add-index_mut
overflow_add-index_mut c =
    let calls = c.loop-done.calls.items in
    let C = c.args.p.now.program in
    let same = c.checked-c.ensures.same in
    let functions : c.checked-c.result.now.program.functions ≡ C.functions = ap (λ (q : CheckedProgram). q.program.functions) same in
    let low : c.callee-callee.result < C.functions = omega (arith, functions, c.callee-callee.ensures.within) in
    let within : c.callee-callee.result < length calls = omega (arith, low, c.loop-done.invariant.count) in
    let read : c.index_mut.result.now ≡ get_or calls c.callee-callee.result 0 = get_or_read calls _ _ within c.index_mut.ensures.value 0 in
    let few = calls_few C c.loop-done.done calls c.loop-done.invariant c.callee-callee.result low in
    omega (arith, read, few, c.sites-done-end.ensures.most)
