use Rattle.std.proofs.Common.{◌∙◌, sym}
use Rattle.safl_text.proofs.PrefixByRuns.{blank_front}
use Rattle.safl_text.proofs.front.front_of.Goals as goal

pub returns-then-is_blank : goal.returns-then-is_blank
returns-then-is_blank c = blank_front c.args.text.now c.requires (sym c.is_blank.ensures ∙ c.if-is_blank.true)
