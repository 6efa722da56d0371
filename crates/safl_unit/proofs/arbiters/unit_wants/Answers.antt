use Rattle.safl_unit.proofs.Common.{Sig, bit_or, unit_for}
use Rattle.std.proofs.Common.{◌≡◌, ℕ, suc, ◌==◌, List, [], ◌∷◌, ◌++◌, length, length-append, cond, sym, ap, ◌∙◌, add-one, arith}
use Rattle.safl_unit.specs.Arbiters.{want_at, site_row}
use Rattle.safl_unit.proofs.equations.Indexing.{site_at}
use Rattle.safl_unit.proofs.equations.Arbiting.{row_zero, row_next, no_rank, more_ranks, row_there}
use Rattle.safl_unit.proofs.arbiters.unit_wants.Goals as goal

pub loop-done-init : goal.loop-done-init
loop-done-init c = record {
  count = c.in_ok-rows.ensures.count ∙ c.function_count-functions.ensures.count;
  rows = λ u. c.in_ok-rows.ensures.bare u ∙ sym (row_zero c.args.p.now.program c.args.outcomes.now.wants.items u);
  ranks_count = ap (λ (xs : List ℕ). length xs) c.in_ok-ranks.ensures.items;
  ranks = λ m q e. absurd (no_rank c.in_ok-ranks.ranks.items 0 m q c.in_ok-ranks.ensures.items e);
}

pub loop-done-preserved : goal.loop-done-preserved
loop-done-preserved c =
    let C = c.args.p.now.program in
    let ls = c.args.outcomes.now.wants.items in
    let m = c.loop-done.done in
    let j = c.loop-done.invariant in
    let l = c.loop-done-test.true in
    let s = c.site_count-sites.ensures.count in
    let unit : c.unit_of-unit.result ≡ unit_for C (suc m) = c.unit_of-unit.ensures.number ∙ ap C.unit (c.callee_of-callee.ensures.number ∙ ap C.callee (add-one m)) in
    let load = site_at ls m C.sites c.index-in-loop-done.result.now (omega (arith, l, s)) c.requires.wants c.index-in-loop-done.ensures in
    let bit : c.index-in-loop-done.result.now.bit ≡ want_at ls (suc m) = sym (ap (bit_or (record { 0 = 0 })) load) in
    let w = c.callee_of-callee.ensures.within in
    let x = c.unit_of-unit.ensures.within in
    let n = j.count in
    let a = length-append c.loop-done.ranks.items ((length c.deref-row.result.now) ∷ []) in
    let b = ap (λ (xs : List ℕ). length xs) c.in_ok-push.ensures.items in
    let d = j.ranks_count in
    record {
      count = c.push_at.ensures.count ∙ j.count;
      rows = λ u.
          c.in_ok-push_at.ensures.rows u
          ∙ ap (λ (xs : List Sig). xs ++ cond (u == c.unit_of-unit.result) (c.index-in-loop-done.result.now.bit ∷ []) []) (j.rows u)
          ∙ ap (λ (k : ℕ). site_row C ls u m ++ cond (u == k) (c.index-in-loop-done.result.now.bit ∷ []) []) unit
          ∙ ap (λ (t : Sig). site_row C ls u m ++ cond (u == unit_for C (suc m)) (t ∷ []) []) bit ∙ sym (row_next C ls u m);
      ranks_count = omega (arith, a, b, d);
      ranks = more_ranks (λ (k : ℕ). length (site_row C ls (unit_for C (suc k)) k)) c.loop-done.ranks.items c.push.new.self.items m (length c.deref-row.result.now) c.in_ok-push.ensures.items d
          (ap (λ (xs : List Sig). length xs) (row_there c.loop-done.rows.items c.unit_of-unit.result c.index.result.now c.deref-row.result.now
          (omega (arith, w, x, n)) c.index.ensures c.deref-row.ensures.value ∙ j.rows c.unit_of-unit.result)
          ∙ ap (λ (k : ℕ). length (site_row C ls k m)) unit)
          j.ranks;
    }
