use Rattle.safl_unit.proofs.Common.{Load, ShowsLoads, Sig, Val, builds_same, builds_within, gate, taken_at, total_bare}
use Rattle.std.proofs.Common.{◌≡◌, ℕ, ◌*◌, ◌==◌, List, [], ◌∷◌, length, Vec, Global, refl, sym, ap, subst, ◌∙◌, arith}
use Rattle.safl_calls.specs.Picks.{first}
use Rattle.safl_lower.specs.Rows.{load_joins, total, RowsFit}
use Rattle.safl_unit.proofs.equations.Chains.{LoadRows, bare_load_rows, more_load_rows, joined_loads, load_fits, taken_shown, operands_fit, end_there, end_shown}
use Rattle.safl_unit.proofs.arrivals.unit_ends.Goals as goal

pub loop-f-init : goal.loop-f-init
loop-f-init c =
    let C = c.args.p.now.program in
    let rows = c.in_ok-rows.rows.items in
    let none = total_bare load_joins rows refl c.in_ok-rows.ensures.bare in
    record {
      gates = omega (arith, none);
      table = bare_load_rows c.args.net.now rows C.functions (λ (u : ℕ). C.result u ∷ []) (λ (v : Val) (u f : ℕ). gate (u == C.unit f) (taken_at v c.args.outcomes.now.ends.items f))
          (c.in_ok-rows.ensures.count ∙ c.function_count-functions.ensures.count) c.in_ok-rows.ensures.bare;
    }

pub push_load-requires : goal.push_load-requires
push_load-requires c =
    let e = c.loop-f.invariant.table.entries in
    let w = c.unit_of-unit.ensures.within in
    let l = c.loop-f-test.true in
    let k = c.function_count-functions.ensures.count in
    record { place = omega (arith, e, w, l, k) }

pub loop-f-preserved : goal.loop-f-preserved
loop-f-preserved c =
    let C = c.args.p.now.program in
    let n = c.args.net.now in
    let f = c.loop-f.f in
    let l = c.loop-f-test.true in
    let k = c.function_count-functions.ensures.count in
    let h = end_there C n c.args.outcomes.now f c.index-end.result.now c.requires.outcomes (omega (arith, l, k)) c.index-end.ensures in
    let one = h.count in
    let ops = c.in_ok-load.ensures.operands ∙ c.deref.ensures.value in
    let d = ap (λ (xs : List Sig). length xs) ops in
    let g = c.loop-f.invariant.gates in
    let more = c.in_ok-push_load.ensures.gates in
    let fit = operands_fit n n 0 c.index-end.result.now.words.items c.index-end.result.now.words.items (C.result f ∷ [])
    (C.result c.unit_of-unit.result ∷ []) (builds_same n n c.requires.room.tidy refl 0) h.words refl (ap (λ (w : ℕ). w ∷ []) c.unit_of-unit.ensures.width) in
    record {
      gates = omega (arith, one, d, g, more);
      table = more_load_rows n c.loop-f.rows.items c.push_load.new.rows.items C.functions c.unit_of-unit.result f c.in_ok-load.load (λ (u : ℕ). C.result u ∷ [])
          (λ (v : Val) (u j : ℕ). gate (u == C.unit j) (taken_at v c.args.outcomes.now.ends.items j))
          c.loop-f.invariant.table c.push_load.ensures.count c.in_ok-push_load.ensures.rows
          (load_fits n c.in_ok-load.load c.index-end.result.now.bit c.index-end.result.now.words.items (C.result c.unit_of-unit.result ∷ []) c.in_ok-load.ensures.bit ops h.bit fit)
          (λ v i. taken_shown v c.in_ok-load.load (i == c.unit_of-unit.result) c.index-end.result.now.bit c.index-end.result.now.words.items c.in_ok-load.ensures.bit ops
          ∙ end_shown C v n c.args.outcomes.now f i c.unit_of-unit.result c.index-end.result.now c.index-end.result.now.words.items h refl c.unit_of-unit.ensures.number);
    }

pub join_loads-requires-clause-fits : goal.join_loads-requires-clause-fits
join_loads-requires-clause-fits c =
    let C = c.args.p.now.program in
    let ws = λ (u : ℕ). C.result u ∷ [] in
    (ws, subst (λ (rows : List (Vec Load Global)). RowsFit c.args.net.now rows ws) (sym c.deref-2.ensures.value) c.loop-f.invariant.table.fits)

pub join_loads-requires-clause-room : goal.join_loads-requires-clause-room
join_loads-requires-clause-room c =
    let d = ap (total load_joins) c.deref-2.ensures.value in
    let g = c.loop-f.invariant.gates in
    let b = c.loop-f.auto.f-end in
    let k = c.function_count-functions.ensures.count in
    let r = c.requires.room.room in
    record { tidy = c.requires.room.tidy; room = omega (arith, d, g, b, k, r) }

pub returns-clause-built : goal.returns-clause-built
returns-clause-built c =
    let d = ap (total load_joins) c.deref-2.ensures.value in
    let g = c.loop-f.invariant.gates in
    let b = c.loop-f.auto.f-end in
    let k = c.function_count-functions.ensures.count in
    builds_within (2 * c.args.p.now.program.functions) c.in_ok-all.ensures.built (omega (arith, d, g, b, k))

pub returns-clause-done : goal.returns-clause-done
returns-clause-done c =
    let C = c.args.p.now.program in
    let n = c.args.net.now in
    let l = c.loop-f-test.false in
    let b = c.loop-f.auto.f-end in
    let k = c.function_count-functions.ensures.count in
    let e : c.loop-f.f ≡ C.functions = omega (arith, l, b, k) in
    let ws = λ (u : ℕ). C.result u ∷ [] in
    let says = λ (m : ℕ) (v : Val) (u : ℕ). first (λ (f : ℕ). gate (u == C.unit f) (taken_at v c.args.outcomes.now.ends.items f)) m in
    let table = subst (λ (rows : List (Vec Load Global)). LoadRows n rows C.functions ws (says c.loop-f.f)) (sym c.deref-2.ensures.value) c.loop-f.invariant.table in
    let done = joined_loads n c.join_loads.new.net c.deref-2.result.now c.in_ok-all.all.items C.functions ws (says c.loop-f.f) table
    c.in_ok-all.ensures.count (c.in_ok-all.ensures.fits ws table.fits) c.in_ok-all.ensures.joined in
    subst (λ (m : ℕ). ShowsLoads c.join_loads.new.net c.in_ok-all.all.items C.functions ws (says m)) e done
