use Rattle.std.proofs.Common.{◌≡◌, map, drop}
use Rattle.clap.specs.Words.{app_of}
use Rattle.safl_command.specs.Forms.{with_forms, bare, shown_form}
use Rattle.safl_command.proofs.forms.with_forms.Given as goal

abbrev pub invariant-loop-each : goal.invariant-loop-each
invariant-loop-each l = with_forms (app_of l.command) (map shown_form (drop l.each-index l.forms)) ≡ with_forms bare (map shown_form l.forms)
