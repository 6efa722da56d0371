use Rattle.safl_sites.proofs.Common.{CheckedProgram, SiteSet, ap, arith, length, subst, sym, ◌<◌, ◌∙◌, ◌≤◌}
use Rattle.safl_sites.specs.Parallel.{ComesBefore}
use Rattle.safl_sites.specs.SiteSets.{has}
use Rattle.safl_sites.proofs.SetsByWords.{set_found}
use Rattle.safl_sites.proofs.planned.Planned.comes_before.Goals as goal

pub returns : goal.returns
returns c =
    let D = c.self.inside.checked.program in
    let k = c.args.k in
    let o = c.args.other in
    let v = ap (λ p. p.checked) c.self.view_is in
    let table = c.self.invariant.conflicts in
    let most : o ≤ D.sites = subst (λ (q : CheckedProgram). o ≤ q.program.sites) (sym v) c.requires.most in
    let within : o < length c.self.inside.before.items = omega (arith, table.count) in
    let set = set_found c.self.inside.before.items o c.index.result.now within c.index.ensures in
    let both = table.sets k o c.requires.least most in (
      λ h. subst (λ (q : CheckedProgram). ComesBefore q.program k o) v (both.0 (ap (λ (r : SiteSet). has r k) (sym set) ∙ (sym c.contains.ensures ∙ h))),
      λ h. c.contains.ensures ∙ (ap (λ (r : SiteSet). has r k) set ∙ both.1 (subst (λ (q : CheckedProgram). ComesBefore q.program k o) (sym v) h)),
    )
