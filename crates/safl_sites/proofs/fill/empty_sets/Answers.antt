use Rattle.safl_sites.proofs.Common.{HasAt, SiteSet}
use Rattle.std.proofs.Common.{◌≡◌, List, replicate, subst}
use Rattle.safl_sites.proofs.TablesByBodies.{empty_table}
use Rattle.safl_sites.proofs.fill.empty_sets.Goals as goal

pub returns-clause-empty : goal.returns-clause-empty
returns-clause-empty c = λ i k h.
    let same : c.in_ok-sets.sets.items ≡ replicate c.args.count c.new-empty.result = c.in_ok-sets.ensures.items_if_clones_equal (λ y e. e) in
    empty_table c.args.count c.new-empty.result c.new-empty.ensures i k (subst (λ (sets : List SiteSet). HasAt sets i k) same h)
