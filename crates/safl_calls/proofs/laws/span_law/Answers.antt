use Rattle.safl_calls.proofs.Fixed.{is_short}
use Rattle.safl_calls.proofs.FromWellFormed.{numbered}
use Rattle.safl_calls.proofs.Sooner.{no_sooner}
use Rattle.safl_calls.proofs.laws.span_law.Goals as goal

pub returns-clause-sooner : goal.returns-clause-sooner
returns-clause-sooner c = λ C wf args cycles legal may v w d e. no_sooner C args (numbered C wf) wf.numbered w d cycles legal may v e

pub returns-clause-short : goal.returns-clause-short
returns-clause-short c = λ C. is_short C
