use Rattle.safl_typing.proofs.Common.{HasSlots, subst, sym}
use Rattle.safl_term.proofs.SlotsOfLets.{slots-If}
use Rattle.safl_typing.proofs.terms.make_if.Goals as goal

pub returns-clause-slots : goal.returns-clause-slots
returns-clause-slots c n h i j =
    slots-If n c.in_ok-test.test c.in_ok-first.first c.in_ok-second.second
    (subst (HasSlots n) (sym c.in_ok-test.ensures.ok) h)
    (subst (HasSlots n) (sym c.in_ok-first.ensures.ok) i)
    (subst (HasSlots n) (sym c.in_ok-second.ensures.ok) j)
