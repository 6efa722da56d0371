use Rattle.safl_unit.proofs.Common.{Sig, bit_joins, entry_in, maybe_one, slice_get-get_or, total_bare}
use Rattle.std.proofs.Common.{◌≡◌, ℕ, ◌==◌, ◌++◌, List, [], cond, Option, None, slice_index_or, refl, sym, ap, ◌∙◌, arith}
use Rattle.safl_unit.specs.Edges.{entry_row}
use Rattle.safl_unit.proofs.equations.Others.{entry_zero, entry_next}
use Rattle.safl_unit.proofs.rivals.unit_entries.Goals as goal

pub loop-f-init : goal.loop-f-init
loop-f-init c =
    let none = total_bare bit_joins c.in_ok-rows.rows.items refl c.in_ok-rows.ensures.bare in
    record {
      count = c.in_ok-rows.ensures.count ∙ c.function_count-functions.ensures.count;
      rows = λ u. c.in_ok-rows.ensures.bare u ∙ sym (entry_zero c.args.p.now.program c.args.entries.now u);
      gates = omega (arith, none);
    }

pub push_some-requires : goal.push_some-requires
push_some-requires c =
    let e = c.loop-f.invariant.count in
    let w = c.unit_of-unit.ensures.within in
    let l = c.loop-f-test.true in
    let k = c.function_count-functions.ensures.count in
    record { place = omega (arith, e, w, l, k) }

pub loop-f-preserved : goal.loop-f-preserved
loop-f-preserved c =
    let C = c.args.p.now.program in
    let es = c.args.entries.now in
    let f = c.loop-f.f in
    let l = c.loop-f-test.true in
    let k = c.function_count-functions.ensures.count in
    let m = c.requires.count in
    let at = slice_get-get_or es f None (omega (arith, l, k, m)) in
    let g = c.loop-f.invariant.gates in
    let more = c.in_ok-push_some.ensures.gates in
    record {
      count = c.push_some.ensures.count ∙ c.loop-f.invariant.count;
      rows = λ u.
          c.in_ok-push_some.ensures.rows u ∙ ap (λ (xs : List Sig). xs ++ cond (u == c.unit_of-unit.result) (maybe_one (slice_index_or es f None)) []) (c.loop-f.invariant.rows u)
          ∙ ap (λ (x : ℕ). entry_row C es u f ++ cond (u == x) (maybe_one (slice_index_or es f None)) []) c.unit_of-unit.ensures.number
          ∙ ap (λ (o : Option (Option Sig)). entry_row C es u f ++ cond (u == C.unit f) (maybe_one (entry_in o)) []) (sym at) ∙ sym (entry_next C es u f);
      gates = omega (arith, g, more);
    }

pub returns-clause-rows : goal.returns-clause-rows
returns-clause-rows c = λ u.
    let C = c.args.p.now.program in
    let l = c.loop-f-test.false in
    let b = c.loop-f.auto.f-end in
    let k = c.function_count-functions.ensures.count in
    let e : c.loop-f.f ≡ C.functions = omega (arith, l, b, k) in
    c.loop-f.invariant.rows u ∙ ap (entry_row C c.args.entries.now u) e

pub returns-clause-gates : goal.returns-clause-gates
returns-clause-gates c =
    let g = c.loop-f.invariant.gates in
    let b = c.loop-f.auto.f-end in
    let k = c.function_count-functions.ensures.count in
    omega (arith, g, b, k)
