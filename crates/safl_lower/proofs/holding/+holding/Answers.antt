use Rattle.safl_lower.proofs.Common.{nodes, nodes_in, shown_term, shown_terms, slice_get_read, smaller_at}
use Rattle.std.proofs.Common.{rules, ◌+◌, ◌*◌, ◌<◌, length, refl, sym, ◌∙◌}
use Rattle.safl_lower.proofs.ListedTerms.{holds_at, none_so_far}
use Rattle.safl_lower.proofs.holding.+holding.Goals as goal

-- ---- a list of terms

pub hold_calls-holds_calls-requires : goal.hold_calls-holds_calls-requires
hold_calls-holds_calls-requires t c =
    let at = slice_get_read c.args.ts.now (length c.args.ts.now) c.loop-t.t-index c.t-item.result refl c.loop-t-test.true c.t-item.is in
    let smaller : 2 * nodes (shown_term c.t-item.result) < 2 * nodes_in (shown_terms c.args.ts.now) + 1 = smaller_at c.args.ts.now c.loop-t.t-index c.t-item.result at in
    search rules

pub hold_calls-returns-then-holds_calls : goal.hold_calls-returns-then-holds_calls
hold_calls-returns-then-holds_calls t c =
    let at = slice_get_read c.args.ts.now (length c.args.ts.now) c.loop-t.t-index c.t-item.result refl c.loop-t-test.true c.t-item.is in
    sym (holds_at c.args.ts.now c.loop-t.t-index c.t-item.result at (sym c.holds_calls.ensures ∙ c.if-holds_calls.true))

pub hold_calls-loop-t-preserved : goal.hold_calls-loop-t-preserved
hold_calls-loop-t-preserved t c =
    let at = slice_get_read c.args.ts.now (length c.args.ts.now) c.loop-t.t-index c.t-item.result refl c.loop-t-test.true c.t-item.is in
    none_so_far c.args.ts.now c.loop-t.t-index c.t-item.result at c.loop-t.invariant (sym c.holds_calls.ensures ∙ c.if-holds_calls.false)
