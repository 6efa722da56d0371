use Rattle.safl_unit.proofs.Common.{builds_on, not, on}
use Rattle.safl_word.proofs.Options.{on_ok_always}
use Rattle.safl_unit.proofs.equations.Granting.{both_shown}
use Rattle.safl_unit.proofs.grants.main_grant.Goals as goal

pub returns-clause-built : goal.returns-clause-built
returns-clause-built c = on_ok_always c.both.result (builds_on c.inverse.ensures.built c.both.ensures.built)

pub returns-clause-value : goal.returns-clause-value
returns-clause-value c = both_shown c.inverse.new.net c.both.new.net c.both.result c.args.start c.in_ok-rests.rests (λ v. not (on v c.args.run))
    c.both.ensures.built c.in_ok-rests.ensures.value c.both.ensures.value
