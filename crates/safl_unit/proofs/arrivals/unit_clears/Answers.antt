use Rattle.safl_unit.proofs.Common.{RowsAreBits, Sig, Val, bit_joins, builds_within, entry_in, taken_from, total}
use Rattle.std.proofs.Common.{◌≡◌, ℕ, ◌==◌, ◌&&◌, ◌||◌, List, Vec, Global, is_some, slice_get, sym, ap, subst, ◌∙◌, arith}
use Rattle.safl_unit.specs.Edges.{one_below, bit_of, ShowsBits}
use Rattle.safl_unit.proofs.equations.Chains.{BitRows, load_rows_total, start_load_rows, more_some_rows, joined_bits, loop_there, loop_fits, loop_shown}
use Rattle.safl_unit.proofs.arrivals.unit_clears.Goals as goal

pub loop-h-init : goal.loop-h-init
loop-h-init c =
    let C = c.args.p.now.program in
    let xs = c.args.ends.now in
    let rows = c.in_ok-rows.rows.items in
    let none = load_rows_total rows (λ (i : ℕ). bit_of (entry_in (slice_get xs i))) c.in_ok-rows.ensures.rows in
    record {
      gates = omega (arith, none);
      table = start_load_rows c.args.net.now rows xs C.functions c.requires.ends.0
          (λ (v : Val) (i h : ℕ). (i == C.unit h) && is_some (taken_from v c.args.outcomes.now.loops.items h))
          (c.in_ok-rows.ensures.count ∙ c.function_count-functions.ensures.count)
          c.requires.ends.1 c.in_ok-rows.ensures.rows;
    }

pub push_some-requires : goal.push_some-requires
push_some-requires c =
    let e = c.loop-h.invariant.table.entries in
    let w = c.unit_of-unit.ensures.within in
    let l = c.loop-h-test.true in
    let k = c.function_count-functions.ensures.count in
    record { place = omega (arith, e, w, l, k) }

pub loop-h-preserved : goal.loop-h-preserved
loop-h-preserved c =
    let C = c.args.p.now.program in
    let n = c.args.net.now in
    let h = c.loop-h.h in
    let l = c.loop-h-test.true in
    let k = c.function_count-functions.ensures.count in
    let o = c.args.outcomes.now in
    let at = loop_there C n o h c.index.result.now c.requires.outcomes (omega (arith, l, k)) c.index.ensures in
    let g = c.loop-h.invariant.gates in
    let more = c.in_ok-push_some.ensures.gates in
    record {
      gates = omega (arith, g, more);
      table = more_some_rows n c.loop-h.rows.items c.push_some.new.rows.items C.functions c.unit_of-unit.result h c.load_bit-bit.result (λ (v : Val) (i : ℕ). is_some (taken_from v c.args.ends.now i))
          (λ (v : Val) (i j : ℕ). (i == C.unit j) && is_some (taken_from v o.loops.items j))
          c.loop-h.invariant.table c.push_some.ensures.count c.in_ok-push_some.ensures.rows (loop_fits C n o h c.index.result.now c.load_bit-bit.result c.requires.outcomes at c.load_bit-bit.ensures)
          (λ v i. loop_shown v o h i c.unit_of-unit.result (C.unit h) c.index.result.now c.load_bit-bit.result at c.load_bit-bit.ensures c.unit_of-unit.ensures.number);
    }

pub join_bits-requires-clause-fits : goal.join_bits-requires-clause-fits
join_bits-requires-clause-fits c = subst (λ (rows : List (Vec Sig Global)). RowsAreBits c.args.net.now rows) (sym c.deref.ensures.value) c.loop-h.invariant.table.fits

pub join_bits-requires-clause-room : goal.join_bits-requires-clause-room
join_bits-requires-clause-room c =
    let d = ap (total bit_joins) c.deref.ensures.value in
    let g = c.loop-h.invariant.gates in
    let b = c.loop-h.auto.h-end in
    let k = c.function_count-functions.ensures.count in
    let r = c.requires.room.room in
    record { tidy = c.requires.room.tidy; room = omega (arith, d, g, b, k, r) }

pub returns-clause-built : goal.returns-clause-built
returns-clause-built c =
    let d = ap (total bit_joins) c.deref.ensures.value in
    let g = c.loop-h.invariant.gates in
    let b = c.loop-h.auto.h-end in
    let k = c.function_count-functions.ensures.count in
    builds_within c.args.p.now.program.functions c.in_ok-all.ensures.built (omega (arith, d, g, b, k))

pub returns-clause-done : goal.returns-clause-done
returns-clause-done c =
    let C = c.args.p.now.program in
    let n = c.args.net.now in
    let l = c.loop-h-test.false in
    let b = c.loop-h.auto.h-end in
    let k = c.function_count-functions.ensures.count in
    let e : c.loop-h.h ≡ C.functions = omega (arith, l, b, k) in
    let says = λ (m : ℕ) (v : Val) (u : ℕ). is_some (taken_from v c.args.ends.now u) || one_below (λ (h : ℕ). (u == C.unit h) && is_some (taken_from v c.args.outcomes.now.loops.items h)) m in
    let table = subst (λ (rows : List (Vec Sig Global)). BitRows n rows C.functions (says c.loop-h.h)) (sym c.deref.ensures.value) c.loop-h.invariant.table in
    let done = joined_bits n c.join_bits.new.net c.deref.result.now c.in_ok-all.all.items C.functions (says c.loop-h.h) table c.in_ok-all.ensures.count c.in_ok-all.ensures.joined in
    subst (λ (m : ℕ). ShowsBits c.join_bits.new.net c.in_ok-all.all.items C.functions (says m)) e done
