use Rattle.safl_compiler.proofs.OneProgram.{program_or_fault}
use Rattle.safl_compiler.proofs.laws.program_or_fault_law.Goals as goal

pub returns : goal.returns
returns c = program_or_fault c.program_or_fault_law.ensures c.printable_law.ensures c.fault_or_form_law.ensures
