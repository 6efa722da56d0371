use Rattle.safl_unit.proofs.Common.{Load, ShowsLoads, Sig, Val, builds_same, builds_within, gate, on, operands_in, pin, total_bare}
use Rattle.std.proofs.Common.{◌≡◌, ℕ, suc, ◌+◌, ◌*◌, ◌==◌, ◌&&◌, List, length, Vec, Global, slice_get, refl, sym, ap, subst, ◌∙◌, arith}
use Rattle.safl_calls.specs.Picks.{first}
use Rattle.safl_lower.specs.Rows.{load_joins, total, RowsFit}
use Rattle.safl_unit.proofs.equations.Chains.{LoadRows, bare_load_rows, more_load_rows, joined_loads, load_fits, taken_shown, operands_fit, want_there, want_shown}
use Rattle.safl_unit.proofs.arrivals.function_loads.Goals as goal

pub loop-k-init : goal.loop-k-init
loop-k-init c =
    let C = c.args.p.now.program in
    let rows = c.in_ok-rows.rows.items in
    let none = total_bare load_joins rows refl c.in_ok-rows.ensures.bare in
    record {
      gates = omega (arith, none);
      table = bare_load_rows c.args.net.now rows C.functions C.params
          (λ (v : Val) (f k : ℕ). gate ((f == C.callee k) && on v (pin c.args.goes.now k)) (operands_in v (slice_get c.args.outcomes.now.wants.items k)))
          (c.in_ok-rows.ensures.count ∙ c.function_count-functions.ensures.count) c.in_ok-rows.ensures.bare;
    }

pub push_load-requires : goal.push_load-requires
push_load-requires c =
    let e = c.loop-k.invariant.table.entries in
    let w = c.callee_of-callee.ensures.within in
    record { place = omega (arith, e, w) }

pub loop-k-preserved : goal.loop-k-preserved
loop-k-preserved c =
    let C = c.args.p.now.program in
    let n = c.args.net.now in
    let k = c.loop-k.k in
    let l = c.loop-k-test.true in
    let s = c.site_count-sites.ensures.count in
    let h = want_there C n c.args.outcomes.now k c.index-want.result.now c.requires.outcomes (omega (arith, l, s)) c.index-want.ensures in
    let one = h.count in
    let few = c.function_count-functions.ensures.checked.limits.params (C.callee k) in
    let go = pin c.args.goes.now k in
    let own = c.index-want.result.now.words.items in
    let ops = c.in_ok-load.ensures.operands ∙ c.deref.ensures.value in
    let d = ap (λ (xs : List Sig). length xs) ops in
    let g = c.loop-k.invariant.gates in
    let more = c.in_ok-push_load.ensures.gates in
    let fit = operands_fit n n 0 own own (C.params (C.callee k)) (C.params c.callee_of-callee.result) (builds_same n n c.requires.room.tidy refl 0)
    h.words refl (ap C.params c.callee_of-callee.ensures.number) in
    record {
      gates = omega (arith, one, few, d, g, more);
      table = more_load_rows n c.loop-k.rows.items c.push_load.new.rows.items C.functions c.callee_of-callee.result k c.in_ok-load.load C.params
          (λ (v : Val) (f j : ℕ). gate ((f == C.callee j) && on v (pin c.args.goes.now j)) (operands_in v (slice_get c.args.outcomes.now.wants.items j)))
          c.loop-k.invariant.table c.push_load.ensures.count c.in_ok-push_load.ensures.rows
          (load_fits n c.in_ok-load.load go own (C.params c.callee_of-callee.result) c.in_ok-load.ensures.bit ops (c.requires.goes.each k (omega (arith, l, s))) fit)
          (λ v i. taken_shown v c.in_ok-load.load (i == c.callee_of-callee.result) go own c.in_ok-load.ensures.bit ops
          ∙ want_shown C v n c.args.outcomes.now k i c.callee_of-callee.result c.index-want.result.now own go h refl c.callee_of-callee.ensures.number);
    }

pub join_loads-requires-clause-fits : goal.join_loads-requires-clause-fits
join_loads-requires-clause-fits c =
    let ws = c.args.p.now.program.params in
    (ws, subst (λ (rows : List (Vec Load Global)). RowsFit c.args.net.now rows ws) (sym c.deref-2.ensures.value) c.loop-k.invariant.table.fits)

pub join_loads-requires-clause-room : goal.join_loads-requires-clause-room
join_loads-requires-clause-room c =
    let d = ap (total load_joins) c.deref-2.ensures.value in
    let g = c.loop-k.invariant.gates in
    let b = c.loop-k.auto.k-end in
    let s = c.site_count-sites.ensures.count in
    let r = c.requires.room.room in
    record { tidy = c.requires.room.tidy; room = omega (arith, d, g, b, s, r) }

pub returns-clause-built : goal.returns-clause-built
returns-clause-built c =
    let d = ap (total load_joins) c.deref-2.ensures.value in
    let g = c.loop-k.invariant.gates in
    let b = c.loop-k.auto.k-end in
    let s = c.site_count-sites.ensures.count in
    builds_within (17 * c.args.p.now.program.sites + 17) c.in_ok-all.ensures.built (omega (arith, d, g, b, s))

pub returns-clause-done : goal.returns-clause-done
returns-clause-done c =
    let C = c.args.p.now.program in
    let n = c.args.net.now in
    let l = c.loop-k-test.false in
    let b = c.loop-k.auto.k-end in
    let s = c.site_count-sites.ensures.count in
    let e : c.loop-k.k ≡ suc C.sites = omega (arith, l, b, s) in
    let says = λ (m : ℕ) (v : Val) (f : ℕ). first (λ (k : ℕ). gate ((f == C.callee k) && on v (pin c.args.goes.now k)) (operands_in v (slice_get c.args.outcomes.now.wants.items k))) m in
    let table = subst (λ (rows : List (Vec Load Global)). LoadRows n rows C.functions C.params (says c.loop-k.k)) (sym c.deref-2.ensures.value) c.loop-k.invariant.table in
    let done = joined_loads n c.join_loads.new.net c.deref-2.result.now c.in_ok-all.all.items C.functions C.params (says c.loop-k.k) table
    c.in_ok-all.ensures.count (c.in_ok-all.ensures.fits C.params table.fits) c.in_ok-all.ensures.joined in
    subst (λ (m : ℕ). ShowsLoads c.join_loads.new.net c.in_ok-all.all.items C.functions C.params (says m)) e done
