use Rattle.safl_number_set.proofs.Common.{Grouped, ap, arith, counted, shown_groups, sum, ◌∙◌}
use Rattle.safl_number_set.proofs.SumsOfParts.{sum_all, sum_bits}
use Rattle.safl_number_set.proofs.CountedGroups.{counted_long, counted_bits}
use Rattle.safl_number_set.proofs.grouped_set.GroupedSet.len.Goals as goal

pub returns-clause-count : goal.returns-clause-count
returns-clause-count c =
    let n = c.self.inside in
    let t = c.self.invariant.1 in
    t.summed.total ∙ (sum_all (counted (shown_groups n.groups)) n.tally.blocks.items t.blocks ∙ ap (λ (a : Grouped). sum (counted a)) c.self.view_is)

pub returns-clause-few : goal.returns-clause-few
returns-clause-few c =
    let n = c.self.inside in
    let h = c.self.invariant.0 in
    let t = c.self.invariant.1 in
    let all = sum_all (counted (shown_groups n.groups)) n.tally.blocks.items t.blocks in
    let few = sum_bits (counted (shown_groups n.groups)) (counted_bits n.groups h) in
    omega (arith, t.summed.total, all, few, counted_long n.groups h, h.few)
