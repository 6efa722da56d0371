-- How the program's command is built, subcommand by subcommand.
use Rattle.std.proofs.Common.{◌≡◌, ℕ, ◌+◌, ◌<◌, List, length, map, drop, get_or, sym, ap, ◌∙◌}
use Rattle.std.proofs.lemmas.List.{at_drop_more}
use Rattle.clap.specs.Words.{App, with_subcommand}
use Rattle.safl_command.specs.Forms.{form_shape, with_forms, shown_form}
use Rattle.safl_command.specs.declared.forms.Form as code_form

-- one more subcommand
pub forms_next : (a b : App) (xs : List code_form.Form) (i : ℕ) (d : code_form.Form) → i < length xs → b ≡ with_subcommand a (form_shape (shown_form (get_or xs i d)))
    → with_forms b (map shown_form (drop (i + 1) xs)) ≡ with_forms a (map shown_form (drop i xs))
forms_next a b xs i d h is =
    ap (λ (y : App). with_forms y (map shown_form (drop (i + 1) xs))) is
    ∙ sym (at_drop_more (λ (l : List code_form.Form). with_forms a (map shown_form l)) xs i d h)
