use Rattle.std.proofs.Common.{◌≡◌, ℕ, ◌+◌, ◌≤◌, cond, map, sym, ap, subst, ◌∙◌, arith}
use Rattle.std.specs.Prelude.{count_by}
use Rattle.std.specs.Int.{from_bool}
use Rattle.std.specs.List.{range_with_len}
use Rattle.safl_word.proofs.Booleans.{bool_number}
use Rattle.safl_report.proofs.CountsByOne.{count_more, count_most, bool_few}
use Rattle.safl_report.proofs.lines.count_arbiters.Goals as goal

pub loop-f-preserved : goal.loop-f-preserved
loop-f-preserved c =
    let p = c.args.p.now in
    let C = p.program in
    let f = c.loop-f.f in
    let arbiter = p.arbiter in
    let one : c.from-count.result ≡ cond (arbiter (C.unit f)) 1 0 = c.from-count.ensures ∙ ap from_bool c.arbiter.ensures.entry ∙ bool_number (arbiter (C.unit f)) in
    let count : c.loop-f.count + c.from-count.result ≡ count_by arbiter (map C.unit (range_with_len 0 (f + 1))) =
    ap (λ (m : ℕ). m + c.from-count.result) c.loop-f.invariant.count ∙ ap (λ (m : ℕ). count_by arbiter (map C.unit (range_with_len 0 f)) + m) one
    ∙ sym (count_more arbiter C.unit 0 f f (omega arith)) in
    record {
      count = count;
      few = subst (λ (m : ℕ). m ≤ f + 1) (sym count) (count_most arbiter C.unit 0 (f + 1));
    }

pub overflow_add-count : goal.overflow_add-count
overflow_add-count c =
    let small : c.from-count.result ≤ 1 = subst (λ (m : ℕ). m ≤ 1) (sym c.from-count.ensures) (bool_few c.arbiter.result) in
    omega arith
