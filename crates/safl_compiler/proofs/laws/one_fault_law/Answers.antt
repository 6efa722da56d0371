use Rattle.safl_compiler.proofs.OneProgram.{one_fault}
use Rattle.safl_compiler.proofs.laws.one_fault_law.Goals as goal

pub returns : goal.returns
returns c = one_fault c.one_program_law.ensures c.no_fault_beside_law.ensures c.one_fault_law.ensures
