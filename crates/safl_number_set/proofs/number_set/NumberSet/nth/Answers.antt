use Rattle.safl_number_set.proofs.Common.{List, ap, arith, length, sum, sym, take, ℕ, ◌*◌, ◌<◌, ◌∙◌, ◌≡◌}
use Rattle.safl_number_set.proofs.SumsOfParts.{are_few, sum_to}
use Rattle.safl_number_set.proofs.number_set.NumberSet.nth.Goals as goal

pub find-top-requires-clause-passed : goal.find-top-requires-clause-passed
find-top-requires-clause-passed c =
    let n = c.self.inside in
    let f = are_few n.ones.items n.blocks.items n.tops.items n.total c.self.invariant in
    omega (arith, f.of_tops, ap (λ (l : List ℕ). sum l) c.self.view_is, ap (λ (l : List ℕ). sum l) c.deref.ensures.value, c.requires)

pub find-top-requires-clause-few : goal.find-top-requires-clause-few
find-top-requires-clause-few c =
    let n = c.self.inside in
    let f = are_few n.ones.items n.blocks.items n.tops.items n.total c.self.invariant in
    omega (arith, f.of_tops, f.of_ones, ap (λ (l : List ℕ). sum l) c.deref.ensures.value)

pub find-block-requires-clause-start : goal.find-block-requires-clause-start
find-block-requires-clause-start c =
    let n = c.self.inside in
    let t = c.find-top.result in
    let top : t.before ≡ sum (take t.at n.tops.items) = c.find-top.ensures.start ∙ ap (λ (l : List ℕ). sum (take t.at l)) c.deref.ensures.value in
    let low : t.at < length n.tops.items = omega (arith, c.find-top.ensures.within, ap (λ (l : List ℕ). length l) c.deref.ensures.value) in
    let times : 32 * t.at ≡ t.at * 32 = omega arith in
    top ∙ (sum_to n.blocks.items n.tops.items c.self.invariant.tops t.at (omega (arith, low)) ∙
    (ap (λ i. sum (take i n.blocks.items)) times ∙ sym (ap (λ (l : List ℕ). sum (take (t.at * 32) l)) c.deref-2.ensures.value)))

pub find-block-requires-clause-passed : goal.find-block-requires-clause-passed
find-block-requires-clause-passed c =
    let n = c.self.inside in
    let f = are_few n.ones.items n.blocks.items n.tops.items n.total c.self.invariant in
    omega (arith, f.of_blocks, ap (λ (l : List ℕ). sum l) c.self.view_is, ap (λ (l : List ℕ). sum l) c.deref-2.ensures.value, c.requires)

pub find-block-requires-clause-few : goal.find-block-requires-clause-few
find-block-requires-clause-few c =
    let n = c.self.inside in
    let f = are_few n.ones.items n.blocks.items n.tops.items n.total c.self.invariant in
    omega (arith, f.of_blocks, f.of_ones, ap (λ (l : List ℕ). sum l) c.deref-2.ensures.value)

pub find-requires-clause-start : goal.find-requires-clause-start
find-requires-clause-start c =
    let n = c.self.inside in
    let t = c.find-block.result in
    let block : t.before ≡ sum (take t.at n.blocks.items) = c.find-block.ensures.start ∙ ap (λ (l : List ℕ). sum (take t.at l)) c.deref-2.ensures.value in
    let low : t.at < length n.blocks.items = omega (arith, c.find-block.ensures.within, ap (λ (l : List ℕ). length l) c.deref-2.ensures.value) in
    let times : 32 * t.at ≡ t.at * 32 = omega arith in
    block ∙ (sum_to n.ones.items n.blocks.items c.self.invariant.blocks t.at (omega (arith, low)) ∙
    (ap (λ i. sum (take i n.ones.items)) times ∙ sym (ap (λ (l : List ℕ). sum (take (t.at * 32) l)) c.deref-3.ensures.value)))

pub find-requires-clause-few : goal.find-requires-clause-few
find-requires-clause-few c =
    let n = c.self.inside in
    let f = are_few n.ones.items n.blocks.items n.tops.items n.total c.self.invariant in
    omega (arith, f.of_ones, ap (λ (l : List ℕ). sum l) c.deref-3.ensures.value)
