use Rattle.std.proofs.Common.{◌≡◌, map, drop, false}
use Rattle.clap.specs.Words.{app_of, new_app}
use Rattle.clap.specs.declared.builder.command.Command.TheViews.{out-Command}
use Rattle.safl_command.specs.Forms.{with_rules, shown_argument}
use Rattle.safl_command.proofs.forms.subcommand_of.Given as goal

abbrev pub invariant-loop-word : goal.invariant-loop-word
invariant-loop-word l =
    record {
      local : (out-Command l.command).has_globals ≡ false;
      same : with_rules (app_of l.command) (map shown_argument (drop l.word-index l.form.arguments.now)) ≡ with_rules (new_app l.form.word.now) (map shown_argument l.form.arguments.now);
    }
