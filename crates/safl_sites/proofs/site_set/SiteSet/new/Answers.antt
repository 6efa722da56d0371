use Rattle.std.proofs.Common.{refl}
use Rattle.safl_sites.proofs.SetsByWords.{has-empty}
use Rattle.safl_sites.proofs.site_set.SiteSet.new.Goals as goal

pub returns : goal.returns
returns c = λ k. has-empty _ refl k
