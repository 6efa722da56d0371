use Rattle.safl_sites.proofs.Common.{CheckedProgram, HasArbiter, get_or_read}
use Rattle.std.proofs.Common.{◌≡◌, ◌<◌, ℕ, false, length, get_or, sym, ap, ◌∙◌, subst, arith}
use Rattle.safl_sites.specs.Planned.{PlannedProgram, choice_of}
use Rattle.safl_sites.proofs.planned.Planned.arbiter.Goals as goal

pub returns-clause-exact : goal.returns-clause-exact
unfolding choice_of
returns-clause-exact c =
    let f = c.args.f in
    let u = c.unit.result in
    let v = ap (λ (p : PlannedProgram). p.checked) c.self.view_is in
    let within : f < c.self.inside.checked.program.functions = subst (λ (q : CheckedProgram). f < q.program.functions) (sym v) c.requires in
    let low : u < length c.self.inside.arbiters.items = omega (arith, within, c.unit.ensures.within, c.self.invariant.units) in
    let is : c.index.result.now ≡ get_or c.self.inside.arbiters.items u false = get_or_read c.self.inside.arbiters.items u c.index.result.now low c.index.ensures false in
    let both = c.self.invariant.plan.arbiters u in (
      λ t. subst (λ (q : CheckedProgram). HasArbiter q.program (q.program.unit f)) v
          (subst (λ (n : ℕ). HasArbiter c.self.inside.checked.program n) c.unit.ensures.number (both.0 (sym is ∙ t))),
      λ h. is ∙ both.1 (subst (λ (n : ℕ). HasArbiter c.self.inside.checked.program n) (sym c.unit.ensures.number)
          (subst (λ (q : CheckedProgram). HasArbiter q.program (q.program.unit f)) (sym v) h)),
    )
