use Rattle.safl_core.proofs.Common.{ap, event_of, inl, inr, sym, ⊎_elim, ◌∙◌}
use Rattle.safl_core.specs.Picking.{event_number}
use Rattle.safl_core.proofs.SetsPutRight.{relists_by, relists_then}
use Rattle.safl_core.proofs.enabled.relist_calls.Goals as goal

pub returns-in-Accept : goal.returns-in-Accept
returns-in-Accept c =
    relists_by c.requires.places
    (λ j lt q. ⊎_elim (λ span. inl span) (λ accepts. inr (ap event_number (sym accepts ∙ ap event_of c.in-Accept.is))) q)
    (λ j lt q. inl q)
    (λ f lt q. inl q)
    (λ v lt q. inl q)
    (relists_then c.relist_touched.ensures c.relist_call.ensures)
