use Rattle.std.proofs.Common.{◌+◌, inl, inr, refl, ◌∙◌, arith}
use Rattle.std.proofs.lemmas.Bool.{cases_lt}
use Rattle.safl_sim.specs.Marks.{first_register}
use Rattle.safl_sim.proofs.MarksByOne.{none_in}
use Rattle.safl_sim.proofs.parts.all_marked.Goals as goal

pub returns-clause-inside : goal.returns-clause-inside
returns-clause-inside c =
    let a = c.mark_range.ensures in
    let b = c.mark_range-2.ensures in
    let f = c.word_count-first.ensures in
    let none = c.in_ok-marks.ensures.none in
    record {
      step = λ k e l. elim (cases_lt k c.args.steps) [
        | inl h ↦ h
        | inr h ↦ absurd (let z = b.below k (omega (arith, l, f)) ∙ a.above k h ∙ none_in c.in_ok-marks.marks _ (none _) k refl in omega (arith, z, e))
      ];
      register = λ k e. elim (cases_lt k (first_register c.args.steps + c.args.registers)) [
        | inl h ↦ h
        | inr h ↦ absurd (let z = b.above k (omega (arith, h, f)) ∙ a.above k (omega (arith, h)) ∙ none_in c.in_ok-marks.marks _ (none _) k refl in omega (arith, z, e))
      ];
    }
