use Rattle.safl_number_set.proofs.Common.{List, ap, arith, sum, ℕ, ◌∙◌}
use Rattle.safl_number_set.proofs.SumsOfParts.{are_few}
use Rattle.safl_number_set.proofs.number_set.NumberSet.len.Goals as goal

pub returns-clause-count : goal.returns-clause-count
returns-clause-count c = c.self.invariant.total ∙ ap (λ (l : List ℕ). sum l) c.self.view_is

pub returns-clause-few : goal.returns-clause-few
returns-clause-few c =
    let n = c.self.inside in
    let f = are_few n.ones.items n.blocks.items n.tops.items n.total c.self.invariant in
    omega (arith, f.of_ones, c.self.invariant.total)
