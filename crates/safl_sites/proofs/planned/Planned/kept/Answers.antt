use Rattle.safl_sites.proofs.Common.{CheckedProgram, get_or_read}
use Rattle.std.proofs.Common.{◌≡◌, ◌<◌, ◌≤◌, false, length, get_or, sym, ap, ◌∙◌, subst, arith}
use Rattle.safl_sites.specs.Kept.{Kept}
use Rattle.safl_sites.specs.Planned.{PlannedProgram, choice_of}
use Rattle.safl_sites.proofs.planned.Planned.kept.Goals as goal

pub returns-clause-exact : goal.returns-clause-exact
unfolding choice_of
returns-clause-exact c =
    let k = c.args.k in
    let v = ap (λ (p : PlannedProgram). p.checked) c.self.view_is in
    let most : k ≤ c.self.inside.checked.program.sites = subst (λ (q : CheckedProgram). k ≤ q.program.sites) (sym v) c.requires.most in
    let low : k < length c.self.inside.keeps.items = omega (arith, most, c.self.invariant.sites) in
    let is : c.index.result.now ≡ get_or c.self.inside.keeps.items k false = get_or_read c.self.inside.keeps.items k c.index.result.now low c.index.ensures false in
    let both = c.self.invariant.plan.keeps k (omega (arith, c.requires.least)) most in (
      λ t. subst (λ (q : CheckedProgram). Kept q.program k) v (both.0 (sym is ∙ t)),
      λ h. is ∙ both.1 (subst (λ (q : CheckedProgram). Kept q.program k) (sym v) h),
    )
