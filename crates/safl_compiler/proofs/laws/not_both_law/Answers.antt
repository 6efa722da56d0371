use Rattle.safl_compiler.proofs.OneProgram.{not_both}
use Rattle.safl_compiler.proofs.laws.not_both_law.Goals as goal

pub returns : goal.returns
returns c = not_both c.one_program_law.ensures c.no_fault_beside_law.ensures c.printable_law.ensures c.fault_or_form_law.ensures
