use Rattle.safl_unit.proofs.Common.{RowsAreBits, Sig, Val, bit_joins, builds_within, on, pin, total, total_bare, unit_for}
use Rattle.std.proofs.Common.{◌≡◌, ℕ, suc, ◌+◌, ◌==◌, ◌&&◌, List, Vec, Global, refl, sym, ap, subst, ◌∙◌, arith}
use Rattle.safl_unit.specs.Edges.{one_below, ShowsBits}
use Rattle.safl_unit.proofs.equations.Chains.{BitRows, bare_bit_rows, more_bit_rows, joined_bits}
use Rattle.safl_unit.proofs.arrivals.unit_starts.Goals as goal

pub loop-k-init : goal.loop-k-init
loop-k-init c =
    let C = c.args.p.now.program in
    let rows = c.in_ok-rows.rows.items in
    let none = total_bare bit_joins rows refl c.in_ok-rows.ensures.bare in
    record {
      gates = omega (arith, none);
      table = bare_bit_rows c.args.net.now rows C.functions (λ (v : Val) (u k : ℕ). (u == unit_for C k) && on v (pin c.args.goes.now k))
          (c.in_ok-rows.ensures.count ∙ c.function_count-functions.ensures.count) c.in_ok-rows.ensures.bare;
    }

pub push_at-requires : goal.push_at-requires
push_at-requires c =
    let e = c.loop-k.invariant.table.entries in
    let w = c.callee_of-callee.ensures.within in
    let u = c.unit_of-unit.ensures.within in
    record { place = omega (arith, e, w, u) }

pub loop-k-preserved : goal.loop-k-preserved
loop-k-preserved c =
    let C = c.args.p.now.program in
    let n = c.args.net.now in
    let k = c.loop-k.k in
    let l = c.loop-k-test.true in
    let s = c.site_count-sites.ensures.count in
    let g = c.loop-k.invariant.gates in
    let more = c.in_ok-push_at.ensures.gates in
    record {
      gates = omega (arith, g, more);
      table = more_bit_rows n c.loop-k.rows.items c.push_at.new.rows.items C.functions c.unit_of-unit.result k (pin c.args.goes.now k)
          (λ (v : Val) (u j : ℕ). (u == unit_for C j) && on v (pin c.args.goes.now j))
          c.loop-k.invariant.table c.push_at.ensures.count c.in_ok-push_at.ensures.rows (c.requires.goes.each k (omega (arith, l, s)))
          (λ v i. ap (λ (x : ℕ). (i == x) && on v (pin c.args.goes.now k)) (c.unit_of-unit.ensures.number ∙ ap C.unit c.callee_of-callee.ensures.number));
    }

pub join_bits-requires-clause-fits : goal.join_bits-requires-clause-fits
join_bits-requires-clause-fits c = subst (λ (rows : List (Vec Sig Global)). RowsAreBits c.args.net.now rows) (sym c.deref.ensures.value) c.loop-k.invariant.table.fits

pub join_bits-requires-clause-room : goal.join_bits-requires-clause-room
join_bits-requires-clause-room c =
    let d = ap (total bit_joins) c.deref.ensures.value in
    let g = c.loop-k.invariant.gates in
    let b = c.loop-k.auto.k-end in
    let s = c.site_count-sites.ensures.count in
    let r = c.requires.room.room in
    record { tidy = c.requires.room.tidy; room = omega (arith, d, g, b, s, r) }

pub returns-clause-built : goal.returns-clause-built
returns-clause-built c =
    let d = ap (total bit_joins) c.deref.ensures.value in
    let g = c.loop-k.invariant.gates in
    let b = c.loop-k.auto.k-end in
    let s = c.site_count-sites.ensures.count in
    builds_within (c.args.p.now.program.sites + 1) c.in_ok-all.ensures.built (omega (arith, d, g, b, s))

pub returns-clause-done : goal.returns-clause-done
returns-clause-done c =
    let C = c.args.p.now.program in
    let n = c.args.net.now in
    let l = c.loop-k-test.false in
    let b = c.loop-k.auto.k-end in
    let s = c.site_count-sites.ensures.count in
    let e : c.loop-k.k ≡ suc C.sites = omega (arith, l, b, s) in
    let says = λ (m : ℕ) (v : Val) (u : ℕ). one_below (λ (k : ℕ). (u == unit_for C k) && on v (pin c.args.goes.now k)) m in
    let table = subst (λ (rows : List (Vec Sig Global)). BitRows n rows C.functions (says c.loop-k.k)) (sym c.deref.ensures.value) c.loop-k.invariant.table in
    let done = joined_bits n c.join_bits.new.net c.deref.result.now c.in_ok-all.all.items C.functions (says c.loop-k.k) table c.in_ok-all.ensures.count c.in_ok-all.ensures.joined in
    subst (λ (m : ℕ). ShowsBits c.join_bits.new.net c.in_ok-all.all.items C.functions (says m)) e done
