use Rattle.safl_tool.proofs.Common.{GivesReshaped, IfErr-weaker, RefusesBy, RefusesReshaping, TellsLong, ap, copies, err_from_is_err_and}
use Rattle.safl_tool.proofs.Common.{length, only_writes, refl, shown_form, shown_program, source_max, subst, ℕ, ◌≡◌, ◌≤◌}
use Rattle.safl_tree.specs.Printed.{printed}
use Rattle.safl_reshape.specs.Refusals.{CopyRefused, IsCopied}
use Rattle.safl_reshape.specs.declared.error.ReshapeErr.TheVariants as errors
use Rattle.safl_tool.proofs.Refusing.{both_ok}
use Rattle.safl_tool.proofs.Reshaped.{source_unshaped, unshaped, too_long, reshaped_given, no_copy, copy_refused, copy_is, copy_long, copy_given}
use Rattle.safl_tool.proofs.reshape.copy_text.Goals as goal

pub returns-in_err-accepted-clause-refused : goal.returns-in_err-accepted-clause-refused
returns-in_err-accepted-clause-refused c =
    let p = err_from_is_err_and c.from_residual.result c.from_residual.ensures.1 in
    rw (p.1, p.2) (source_unshaped (copies c.args.site) c.args.name.now c.args.site c.args.source.now c.in_err-accepted.field-0.0 c.in_err-accepted.ensures.refused)

pub returns-in-None-clause-refused : goal.returns-in-None-clause-refused
returns-in-None-clause-refused c =
    let ds = shown_program c.in_ok-accepted.accepted.program in
    unshaped (copies c.args.site) c.args.name.now c.args.site c.args.source.now ds c.in_ok-accepted.ensures.spelled
    (shown_form c.in_ok-accepted.accepted.checked, c.in_ok-accepted.ensures.form) errors.NoSite
    (copy_refused ds (shown_form c.in_ok-accepted.accepted.checked, c.in_ok-accepted.ensures.form) c.args.site errors.NoSite
    (no_copy ds c.in_ok-accepted.ensures.few c.args.site (c.in-None.ensures.none refl))) c.refusal_of.result c.refusal_of.ensures.tells

pub returns-in-Ok-clause-gives : goal.returns-in-Ok-clause-gives
returns-in-Ok-clause-gives c =
    let ds = shown_program c.in_ok-accepted.accepted.program in
    let es = shown_program c.in-Ok.copy in
    let number : c.in-Some.number ≡ c.args.site = c.in-Some.ensures.number in
    both_ok c.text_of.result (λ t. t.items ≡ printed es) (λ t. length (printed es) ≤ source_max) (λ t. GivesReshaped (copies c.args.site) c.args.source.now (only_writes t.items))
    (λ t e short. reshaped_given (copies c.args.site) c.args.name.now c.args.site c.args.source.now ds c.in_ok-accepted.ensures.spelled
    (shown_form c.in_ok-accepted.accepted.checked, c.in_ok-accepted.ensures.form) c.printed_form_law.ensures es
    c.in-Ok.ensures.printable
    (copy_is ds (shown_form c.in_ok-accepted.accepted.checked, c.in_ok-accepted.ensures.form) c.args.site es (subst (λ (k : ℕ). IsCopied ds k es) number c.in-Ok.ensures.copied))
    (copy_given ds (shown_form c.in_ok-accepted.accepted.checked, c.in_ok-accepted.ensures.form) c.args.site es c.in-Ok.ensures.printable
    (subst (λ (k : ℕ). IsCopied ds k es) number c.in-Ok.ensures.copied) short)
    c.in-Ok.ensures.alike (only_writes t.items) (ap only_writes e))
    c.text_of.ensures.text c.text_of.ensures.short

pub returns-in-Ok-clause-refused : goal.returns-in-Ok-clause-refused
returns-in-Ok-clause-refused c =
    let ds = shown_program c.in_ok-accepted.accepted.program in
    let es = shown_program c.in-Ok.copy in
    let number : c.in-Some.number ≡ c.args.site = c.in-Some.ensures.number in
    IfErr-weaker c.text_of.result (RefusesBy (TellsLong c.args.site (printed es))) (RefusesBy (RefusesReshaping (copies c.args.site) c.args.name.now c.args.site c.args.source.now))
    (λ r h. too_long (copies c.args.site) c.args.name.now c.args.site c.args.source.now ds c.in_ok-accepted.ensures.spelled
    (shown_form c.in_ok-accepted.accepted.checked, c.in_ok-accepted.ensures.form) es
    (copy_long ds (shown_form c.in_ok-accepted.accepted.checked, c.in_ok-accepted.ensures.form) c.args.site es c.in-Ok.ensures.printable
    (subst (λ (k : ℕ). IsCopied ds k es) number c.in-Ok.ensures.copied)) r h) c.text_of.ensures.refused

pub returns-clause-refused : goal.returns-clause-refused
returns-clause-refused c =
    let ds = shown_program c.in_ok-accepted.accepted.program in
    let number : c.in-Some.number ≡ c.args.site = c.in-Some.ensures.number in
    unshaped (copies c.args.site) c.args.name.now c.args.site c.args.source.now ds c.in_ok-accepted.ensures.spelled
    (shown_form c.in_ok-accepted.accepted.checked, c.in_ok-accepted.ensures.form) c.in-Err.error
    (copy_refused ds (shown_form c.in_ok-accepted.accepted.checked, c.in_ok-accepted.ensures.form) c.args.site c.in-Err.error
    (subst (λ (k : ℕ). CopyRefused ds k c.in-Err.error) number c.in-Err.ensures.refused)) c.refusal_of-in-Err.result c.refusal_of-in-Err.ensures.tells
