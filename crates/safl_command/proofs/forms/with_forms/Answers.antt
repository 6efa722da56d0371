use Rattle.std.proofs.Common.{ap, ◌∙◌}
use Rattle.clap.specs.Words.{Shape, app_of, with_subcommand}
use Rattle.safl_command.proofs.Building.{forms_next}
use Rattle.safl_command.proofs.forms.with_forms.Goals as goal

pub loop-each-preserved : goal.loop-each-preserved
loop-each-preserved c =
    forms_next (app_of c.loop-each.command) (app_of c.in_ok-command.command) c.args.forms.now c.loop-each.each-index _ c.loop-each-test.true
    (c.in_ok-command.ensures.shape c.in_ok-subcommand_of.ensures.local ∙ ap (λ (s : Shape). with_subcommand (app_of c.loop-each.command) s) c.in_ok-subcommand_of.ensures.shape)
    ∙ c.loop-each.invariant
