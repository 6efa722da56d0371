use Rattle.std.proofs.Common.{◌≤◌, ◌-◌, length}
use Rattle.safl_vparse.specs.Fronts.{IsCutUpTo}
use Rattle.safl_vparse.proofs.lexer.lex.Given as goal

abbrev pub invariant-pieces : goal.invariant-pieces
invariant-pieces l = record {
  within : l.place ≤ length l.text;
  cut : IsCutUpTo l.text l.place l.tokens.items;
}

abbrev pub decreases-pieces : goal.decreases-pieces
decreases-pieces l = length l.text - l.place
