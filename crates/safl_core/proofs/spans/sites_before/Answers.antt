use Rattle.std.proofs.Common.{◌≡◌, ap, arith}
use Rattle.safl_term.proofs.HeldByChecked.{first_site_past}
use Rattle.safl_core.proofs.spans.sites_before.Goals as goal

pub returns-else-f-functions : goal.returns-else-f-functions
returns-else-f-functions c =
    let past = first_site_past c.args.c.now in
    let at : c.args.f ≡ c.args.c.now.program.functions = omega (arith, c.requires, c.functions.ensures.count, c.if-f-functions.false) in
    let same : c.args.c.now.first_site c.args.f ≡ c.args.c.now.first_site c.args.c.now.program.functions = ap c.args.c.now.first_site at in
    omega (arith, past, same, c.sites.ensures.count)
