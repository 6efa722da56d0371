use Rattle.safl_sim.proofs.OneCall.{once}
use Rattle.safl_run.proofs.OneAnswer.{answers_exist, answers_once, answers_are_outcomes}
use Rattle.safl_run.proofs.laws.call_law.Goals as goal

pub returns-clause-one : goal.returns-clause-one
returns-clause-one c = λ n made whole acyclic state args vs ws a b l. once n made whole acyclic state args vs ws a b l

pub returns-clause-exist : goal.returns-clause-exist
returns-clause-exist c = answers_exist

pub returns-clause-once : goal.returns-clause-once
returns-clause-once c = answers_once

pub returns-clause-outcomes : goal.returns-clause-outcomes
returns-clause-outcomes c = answers_are_outcomes
