use Rattle.std.proofs.Common.{length, ap, ◌∙◌}
use Rattle.safl_term.proofs.HeldByChecked.{params_named}
use Rattle.safl_timing.specs.Names.{shown_names}
use Rattle.safl_timing.proofs.Naming.{as_many}
use Rattle.safl_timing.proofs.blind.blind_lines.Goals as goal

pub find_labels-requires : goal.find_labels-requires
find_labels-requires c =
    ap length (c.deref-3.ensures.value ∙ c.in_ok-secret.ensures)
    ∙ (as_many c.args.listed (shown_names c.deref.result.now) (shown_names c.deref-2.result.now)
    ∙ (ap (λ l. length (shown_names l)) c.deref-2.ensures.value
    ∙ (ap length c.in_ok-params.ensures ∙ params_named c.args.accepted.now.checked c.args.accepted.now.checked.program.main)))
