use Rattle.std.proofs.Common.{arith}
use Rattle.safl_sites.proofs.SetsByWords.{has-insert}
use Rattle.safl_sites.proofs.site_set.SiteSet.insert.Goals as goal

pub returns : goal.returns
returns c = λ j. has-insert c.args.self.now.words c.args.k j (omega arith)
