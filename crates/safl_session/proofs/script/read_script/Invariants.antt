use Rattle.std.proofs.Common.{length}
use Rattle.safl_session.proofs.LinesOfScripts.{ScriptTo}
use Rattle.safl_session.proofs.script.read_script.Given as goal

abbrev pub invariant-lines : goal.invariant-lines
invariant-lines l = ScriptTo l.widths l.bytes l.calls l.words.items l.rest

abbrev pub decreases-lines : goal.decreases-lines
decreases-lines l = length l.rest
