use Rattle.safl_typing.proofs.Common.{HasSlots, shown_term, shown_terms}
use Rattle.std.proofs.Common.{◌+◌, length, ◌∙◌, ap, sym, subst}
use Rattle.safl_term.proofs.SlotsOfLets.{slots-Let}
use Rattle.safl_term.specs.declared.term.Term as declared
use Rattle.safl_term.specs.Terms.{Let}
use Rattle.safl_term.proofs.PlainTrees.{shown_term-Let}
use Rattle.safl_typing.proofs.SlotsBelowLets.{same_term}
use Rattle.safl_typing.proofs.terms.make_let.Goals as goal

pub returns-clause-says : goal.returns-clause-says
returns-clause-says c =
    let e = shown_term-Let c.args.slot c.args.bound c.in_ok-body.body ∙ ap (λ (z : declared.Term). Let (shown_terms c.args.bound.items) (shown_term z)) c.in_ok-body.ensures.ok in
    same_term c.args.width _ _ (sym e)

pub returns-clause-slots : goal.returns-clause-slots
returns-clause-slots c h i = slots-Let c.args.slot c.args.bound c.in_ok-body.body h (subst (HasSlots (c.args.slot + length c.args.bound.items)) (sym c.in_ok-body.ensures.ok) i)
