use Rattle.std.proofs.Common.{ap, ◌==◌}
use Rattle.std.proofs.lemmas.Nat.Bits.{shr_and_one}
use Rattle.safl_sites.specs.SiteSets.{has}
use Rattle.safl_sites.proofs.site_set.SiteSet.contains.Goals as goal

pub returns : goal.returns
unfolding has
returns c = ap (λ b. b == 1) (shr_and_one _ _)
