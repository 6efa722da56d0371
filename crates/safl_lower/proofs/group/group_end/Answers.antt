use Rattle.std.proofs.Common.{◌≡◌, subst, sym, ◌∙◌, ⊎_elim, arith}
use Rattle.std.proofs.lemmas.Bool.{cases_lt}
use Rattle.safl_lower.proofs.group.group_end.Goals as goal

pub returns-then-unit-clause-inside : goal.returns-then-unit-clause-inside
returns-then-unit-clause-inside c = λ h a b.
    ⊎_elim (λ l. c.functions-functions.ensures.checked.groups h c.args.f c.requires a (omega (arith, l))) (λ l. c.loop-g.invariant h l b) (cases_lt h c.args.f)

pub loop-g-preserved : goal.loop-g-preserved
loop-g-preserved c = λ h a b.
    ⊎_elim (λ l. c.loop-g.invariant h a l)
    (λ l. subst (λ x. c.args.c.now.program.unit x ≡ c.args.c.now.program.unit c.args.f) (omega (arith, b, l))
    (sym c.unit.ensures.number ∙ c.if-unit.false ∙ c.unit-unit.ensures.number)) (cases_lt h c.loop-g.g)
