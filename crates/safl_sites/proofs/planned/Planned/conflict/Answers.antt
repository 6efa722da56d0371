use Rattle.safl_sites.proofs.Common.{CheckedProgram, ap, inl, inr, subst, sym, unit_for, ◌∙◌, ◌≡◌}
use Rattle.std.proofs.lemmas.Bool.{both_ways}
use Rattle.safl_sites.proofs.EarlierConflicts.{conflict_of, conflict_by}
use Rattle.safl_sites.proofs.planned.Planned.conflict.Goals as goal

pub returns-then-comes_before : goal.returns-then-comes_before
returns-then-comes_before c =
    let C = c.args.self.now.program in
    let k = c.args.k in
    let o = c.args.other in
    let D = c.self.inside.checked.program in
    let e : unit_for D k ≡ unit_for D o = sym c.unit_for.ensures.number ∙ (c.if-unit_for.false ∙ c.unit_for-else-k-other.ensures.number) in
    let same = subst (λ (q : CheckedProgram). unit_for q.program k ≡ unit_for q.program o) (ap (λ p. p.checked) c.self.view_is) e in
    (λ _. conflict_of C k o c.if-k-other.false same (inl (c.comes_before.ensures.0 c.if-comes_before.true)), λ _. c.if-comes_before.true)

pub returns-else-comes_before : goal.returns-else-comes_before
returns-else-comes_before c =
    let C = c.args.self.now.program in
    let k = c.args.k in
    let o = c.args.other in
    let D = c.self.inside.checked.program in
    let e : unit_for D k ≡ unit_for D o = sym c.unit_for.ensures.number ∙ (c.if-unit_for.false ∙ c.unit_for-else-k-other.ensures.number) in
    let same = subst (λ (q : CheckedProgram). unit_for q.program k ≡ unit_for q.program o) (ap (λ p. p.checked) c.self.view_is) e in (
      λ h. conflict_of C k o c.if-k-other.false same (inr (c.comes_before-else-comes_before.ensures.0 h)),
      λ h. elim (conflict_by C k o h) [ inl b ↦ absurd (both_ways c.comes_before.result c.if-comes_before.false (c.comes_before.ensures.1 b)) | inr b ↦ c.comes_before-else-comes_before.ensures.1 b ],
    )
