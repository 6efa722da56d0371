use Rattle.safl_sites.proofs.Common.{Meets, cases_eq}
use Rattle.std.proofs.Common.{◌/◌, ◌^◌, ◌<◌, length, get_or, arith, refl, sym, ◌∙◌, inl, inr}
use Rattle.safl_sites.proofs.SetsByWords.{word_meets, word_meets_beside, word_misses, word_misses_beside, has_within}
use Rattle.safl_sites.proofs.site_set.SiteSet.meets.Goals as goal
use Rattle.safl_sites.proofs.site_set.SiteSet.meets.Goals.{then-i-except, else-i-except}

pub returns-then-common-ne0 : goal.returns-then-common-ne0
returns-then-common-ne0 c =
    let a = c.args.self.now in
    let b = c.args.other.now in
    let i = c.loop-i.i in
    let e = c.args.except in
    let low : get_or a.words i 0 < 2 ^ 64 = omega arith in
    let found : Meets a b e = elim c.if-i-except.branch [
      | then-i-except w ↦ word_meets_beside a b i e low (λ z. c.if-common-ne0.true (w.common-is ∙ z))
      | else-i-except w ↦ word_meets a b i e low w.if-i-except.false (λ z. c.if-common-ne0.true (w.common-is ∙ z))
    ] in
    (λ _. found, λ _. refl)

pub loop-i-preserved : goal.loop-i-preserved
loop-i-preserved c = λ j below p q.
    let a = c.args.self.now in
    let b = c.args.other.now in
    let i = c.loop-i.i in
    let e = c.args.except in
    elim (cases_eq (j / 64) i) [
      | inr f ↦ c.loop-i.invariant j (omega arith) p q
      | inl f ↦ elim c.if-i-except.branch [
        | then-i-except w ↦ word_misses_beside a b i e w.if-i-except.true j f p q (sym w.common-is ∙ c.if-common-ne0.false)
        | else-i-except w ↦ word_misses a b i e j f p q (sym w.common-is ∙ c.if-common-ne0.false)
      ]
    ]

pub returns : goal.returns
returns c = (
  λ h. absurd (cc),
  λ h.
      let a = c.args.self.now in
      let w : h.other / 64 < length a.words = has_within a h.other h.first in
      absurd (h.differs (c.loop-i.invariant h.other (omega arith) h.first h.second)),
)
