use Rattle.std.proofs.Common.{◌||◌}
use Rattle.safl_lower.proofs.Building.{builds_on}
use Rattle.safl_lower.proofs.Cells.{with_not}
use Rattle.safl_lower.proofs.gates.or_not.Goals as goal

pub returns-clause-built : goal.returns-clause-built
returns-clause-built c = builds_on c.inverse.ensures.built c.either.ensures.built

pub returns-clause-value : goal.returns-clause-value
returns-clause-value c =
    with_not (λ p q. p || q) c.inverse.new.net c.either.new.net c.either.result c.args.a c.args.b c.in_ok-other.other c.either.ensures.built c.in_ok-other.ensures.value c.either.ensures.value
