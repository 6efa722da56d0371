use Rattle.std.proofs.Common.{◌≤◌, List, sym, subst}
use Rattle.std.proofs.lemmas.Result.{err_from_is_err_and}
use Rattle.safl_term.specs.Program.{Program}
use Rattle.safl_tree.specs.declared.tree.Def.{Def}
use Rattle.safl_tree.specs.Shown.{shown_definitions, shown_program}
use Rattle.safl_typing.specs.Forms.{Form, IsFormOf, shown_form}
use Rattle.safl_word.specs.Limits.{sites_max}
use Rattle.safl_check.specs.Answers.{RefusesProgram}
use Rattle.safl_check.specs.Numbered.{program_in}
use Rattle.safl_compiler.proofs.OneProgram.{refuses}
use Rattle.safl_compiler.proofs.accepted.accepted_program.Goals as goal

pub returns-in_err-checked-clause-refused : goal.returns-in_err-checked-clause-refused
returns-in_err-checked-clause-refused c =
    let p = err_from_is_err_and c.from_residual-in_err-checked.result c.from_residual-in_err-checked.ensures.1 in
    let e = c.in_err-checked.field-0.0 in
    let r = subst (λ (l : List Def). RefusesProgram (shown_definitions l) e) c.deref.ensures.value c.in_err-checked.ensures.refused in
    rw (p.1, p.2) (refuses c.shallow_law.ensures c.args.source.now (shown_program c.in_ok-program.program) e c.in_ok-program.ensures.spelled r)

pub returns-clause-few : goal.returns-clause-few
returns-clause-few c f is =
    let ds = shown_program c.in_ok-program.program in
    let checked = c.in_ok-checked.checked in
    let form = subst (λ (l : List Def). IsFormOf (shown_definitions l) (shown_form checked)) c.deref.ensures.value c.in_ok-checked.ensures.form in
    let few : (program_in (shown_form checked)).sites ≤ sites_max = subst (λ (C : Program). C.sites ≤ sites_max)
    (c.forms_are_numbered_law.ensures checked).program c.in_ok-checked.ensures.checked.limits.sites in
    subst (λ (x : Form). (program_in x).sites ≤ sites_max) (sym (c.one_form_law.ensures ds f (shown_form checked) is form)) few
