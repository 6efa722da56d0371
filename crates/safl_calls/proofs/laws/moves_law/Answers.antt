use Rattle.safl_calls.proofs.FromWellFormed.{numbered}
use Rattle.safl_calls.proofs.MachineLaws as law
use Rattle.safl_calls.proofs.laws.moves_law.Goals as goal

pub returns-clause-most : goal.returns-clause-most
returns-clause-most c = λ C wf args es legal v d. law.few_moves C C.functions (numbered C wf) wf.numbered args es legal v d

pub returns-clause-all : goal.returns-clause-all
returns-clause-all c = λ C wf args es legal v w d e. law.all_moves C C.functions (numbered C wf) wf.numbered args es legal v w d e
