use Rattle.std.proofs.Common.{◌≡◌, ℕ, List, map, rules, subst}
use Rattle.std.specs.Prelude.{IfOk}
use Rattle.clap.specs.Words.{app_of}
use Rattle.safl_command.specs.Forms.{Argument, app, bare, forms, shown_form, with_forms}
use Rattle.safl_command.proofs.forms.program.Goals as goal

pub returns : goal.returns
unfolding app
returns c =
    let are : map shown_form c.as_slice.result.now ≡ forms = search rules in
    subst (λ (l : List (List ℕ × List Argument)). IfOk c.with_forms.result (λ p. app_of p ≡ with_forms bare l)) are c.with_forms.ensures
