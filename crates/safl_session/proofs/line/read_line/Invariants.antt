use Rattle.safl_session.proofs.WordsOfLines.{SeenTo}
use Rattle.safl_session.proofs.line.read_line.Given as goal
use Rattle.std.proofs.Common.{length}

abbrev pub invariant-words : goal.invariant-words
invariant-words l = SeenTo l.widths l.line l.given l.misread l.rest l.fn.words.items l.words.items

abbrev pub decreases-words : goal.decreases-words
decreases-words l = length l.rest
