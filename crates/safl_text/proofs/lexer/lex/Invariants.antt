use Rattle.std.proofs.Common.{◌≤◌, ◌-◌, length}
use Rattle.safl_text.specs.Fronts.{IsCutUpTo}
use Rattle.safl_text.proofs.lexer.lex.Given as goal

abbrev pub invariant-pieces : goal.invariant-pieces
invariant-pieces l = record {
  within : l.place ≤ length l.source;
  cut : IsCutUpTo l.source l.place l.tokens.items;
}

abbrev pub decreases-pieces : goal.decreases-pieces
decreases-pieces l = length l.source - l.place
