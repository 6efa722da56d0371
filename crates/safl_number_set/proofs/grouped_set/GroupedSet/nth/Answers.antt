use Rattle.safl_number_set.proofs.Common.{Grouped, List, ap, arith, counted, length, shown_groups, sum, sym, take, ℕ, ◌*◌, ◌<◌, ◌∙◌, ◌≡◌}
use Rattle.safl_number_set.proofs.SumsOfParts.{sum_all, sum_bits, sum_to}
use Rattle.safl_number_set.proofs.CountedGroups.{counted_long, counted_bits}
use Rattle.safl_number_set.proofs.grouped_set.GroupedSet.nth.Goals as goal

pub find-top-requires-clause-passed : goal.find-top-requires-clause-passed
find-top-requires-clause-passed c =
    let n = c.self.inside in
    let t = c.self.invariant.1 in
    let all = sum_all (counted (shown_groups n.groups)) n.tally.blocks.items t.blocks in
    let tops = sum_all n.tally.blocks.items n.tally.tops.items t.summed.tops in
    omega (arith, all, tops, ap (λ (a : Grouped). sum (counted a)) c.self.view_is, ap (λ (l : List ℕ). sum l) c.deref.ensures.value, c.requires)

pub find-top-requires-clause-few : goal.find-top-requires-clause-few
find-top-requires-clause-few c =
    let n = c.self.inside in
    let t = c.self.invariant.1 in
    let all = sum_all (counted (shown_groups n.groups)) n.tally.blocks.items t.blocks in
    let tops = sum_all n.tally.blocks.items n.tally.tops.items t.summed.tops in
    let h = c.self.invariant.0 in
    let low = sum_bits (counted (shown_groups n.groups)) (counted_bits n.groups h) in
    omega (arith, all, tops, low, counted_long n.groups h, h.few, ap (λ (l : List ℕ). sum l) c.deref.ensures.value)

pub find-block-requires-clause-start : goal.find-block-requires-clause-start
find-block-requires-clause-start c =
    let n = c.self.inside in
    let t = c.self.invariant.1 in
    let all = sum_all (counted (shown_groups n.groups)) n.tally.blocks.items t.blocks in
    let tops = sum_all n.tally.blocks.items n.tally.tops.items t.summed.tops in
    let f = c.find-top.result in
    let top : f.before ≡ sum (take f.at n.tally.tops.items) = c.find-top.ensures.start ∙ ap (λ (l : List ℕ). sum (take f.at l)) c.deref.ensures.value in
    let within : f.at < length n.tally.tops.items = omega (arith, c.find-top.ensures.within, ap (λ (l : List ℕ). length l) c.deref.ensures.value) in
    let times : 32 * f.at ≡ f.at * 32 = omega arith in
    top ∙ (sum_to n.tally.blocks.items n.tally.tops.items t.summed.tops f.at (omega (arith, within))
    ∙ (ap (λ i. sum (take i n.tally.blocks.items)) times ∙ sym (ap (λ (l : List ℕ). sum (take (f.at * 32) l)) c.deref-2.ensures.value)))

pub find-block-requires-clause-passed : goal.find-block-requires-clause-passed
find-block-requires-clause-passed c =
    let n = c.self.inside in
    let t = c.self.invariant.1 in
    let all = sum_all (counted (shown_groups n.groups)) n.tally.blocks.items t.blocks in
    let tops = sum_all n.tally.blocks.items n.tally.tops.items t.summed.tops in
    omega (arith, all, ap (λ (a : Grouped). sum (counted a)) c.self.view_is, ap (λ (l : List ℕ). sum l) c.deref-2.ensures.value, c.requires)

pub find-block-requires-clause-few : goal.find-block-requires-clause-few
find-block-requires-clause-few c =
    let n = c.self.inside in
    let t = c.self.invariant.1 in
    let all = sum_all (counted (shown_groups n.groups)) n.tally.blocks.items t.blocks in
    let tops = sum_all n.tally.blocks.items n.tally.tops.items t.summed.tops in
    let h = c.self.invariant.0 in
    let low = sum_bits (counted (shown_groups n.groups)) (counted_bits n.groups h) in
    omega (arith, all, low, counted_long n.groups h, h.few, ap (λ (l : List ℕ). sum l) c.deref-2.ensures.value)

pub find_counted-requires-clause-start : goal.find_counted-requires-clause-start
find_counted-requires-clause-start c =
    let n = c.self.inside in
    let t = c.self.invariant.1 in
    let all = sum_all (counted (shown_groups n.groups)) n.tally.blocks.items t.blocks in
    let tops = sum_all n.tally.blocks.items n.tally.tops.items t.summed.tops in
    let f = c.find-block.result in
    let block : f.before ≡ sum (take f.at n.tally.blocks.items) = c.find-block.ensures.start ∙ ap (λ (l : List ℕ). sum (take f.at l)) c.deref-2.ensures.value in
    let within : f.at < length n.tally.blocks.items = omega (arith, c.find-block.ensures.within, ap (λ (l : List ℕ). length l) c.deref-2.ensures.value) in
    let times : 32 * f.at ≡ f.at * 32 = omega arith in
    block ∙ (sum_to (counted (shown_groups n.groups)) n.tally.blocks.items t.blocks f.at (omega (arith, within))
    ∙ ap (λ i. sum (take i (counted (shown_groups n.groups)))) times)
