use Rattle.safl_unit.proofs.Common.{Load, Sig, bit_of, entry_in, maybe_one, row_at, slice_get_read, take_suc}
use Rattle.std.proofs.Common.{ℕ, ◌<◌, List, length, take, Option, Vec, Global, slice_get, refl, sym, ap, ◌∙◌, add-one, arith}
use Rattle.std.proofs.lemmas.List.{length-take-le, length_push, take_all}
use Rattle.safl_unit.proofs.equations.Chains.{load_rows_more}
use Rattle.safl_unit.proofs.arrivals.load_rows.Goals as goal

pub loop-i-init : goal.loop-i-init
loop-i-init c = record {
  count = ap (λ (l : List (Vec Sig Global)). length l) c.new-rows.ensures.items;
  rows = λ j. ap (λ (l : List (Vec Sig Global)). row_at l j) c.new-rows.ensures.items;
}

pub loop-i-preserved : goal.loop-i-preserved
loop-i-preserved c =
    let xs = c.args.loads.now in
    let i = c.loop-i.i in
    let l = c.loop-i-test.true in
    let n = c.requires in
    let k : i < length xs = omega (arith, l, n) in
    let x = c.index-loads-i.result in
    let at = slice_get_read xs (length xs) i x refl k c.index-loads-i.is in
    let long = length-take-le i xs (omega (arith, k)) in
    let count = c.loop-i.invariant.count in
    record {
      count = let p = ap (λ (t : List (Vec Sig Global)). length t) c.in_ok-push.ensures.items in let q = length_push c.loop-i.rows.items c.in_ok-row.row in omega (arith, p, q, count);
      rows = λ j.
          ap (λ (t : List (Vec Sig Global)). row_at t j) c.in_ok-push.ensures.items
          ∙ load_rows_more c.loop-i.rows.items (take i xs) c.in_ok-row.row x (count ∙ sym long) c.loop-i.invariant.rows (c.in_ok-row.ensures.bit ∙ ap maybe_one c.load_bit-bit.ensures) j
          ∙ ap (λ (t : List (Option Load)). maybe_one (bit_of (entry_in (slice_get t j)))) (sym (take_suc xs i x at) ∙ ap (λ (m : ℕ). take m xs) (sym (add-one i)));
    }

pub returns-clause-count : goal.returns-clause-count
returns-clause-count c =
    let l = c.loop-i-test.false in
    let e = c.loop-i.auto.i-end in
    let n = c.loop-i.invariant.count in
    omega (arith, l, e, n)

pub returns-clause-rows : goal.returns-clause-rows
returns-clause-rows c = λ j.
    let l = c.loop-i-test.false in
    let n = c.requires in
    c.loop-i.invariant.rows j ∙ ap (λ (t : List (Option Load)). maybe_one (bit_of (entry_in (slice_get t j)))) (take_all c.loop-i.i c.args.loads.now (omega (arith, l, n)))
