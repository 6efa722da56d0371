use Rattle.safl_core.proofs.MembersAndSites.{span_of}
use Rattle.safl_core.proofs.spans.own_sites.Goals as goal

pub returns : goal.returns
returns c = span_of c.args.c.now c.members_end.ensures.checked c.args.u c.members_end.result _ c.requires c.first_site.ensures c.sites_before.ensures c.members_end.ensures.ends
