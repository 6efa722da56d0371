use Rattle.safl_circuit.proofs.Comes.{behaved_come, correct_come}
use Rattle.safl_circuit.proofs.laws.comes_law.Goals as goal

pub returns-clause-reset : goal.returns-clause-reset
returns-clause-reset c = correct_come

pub returns-clause-state : goal.returns-clause-state
returns-clause-state c = behaved_come
