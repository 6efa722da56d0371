use Rattle.safl_compiler.proofs.OneProgram.{one_program}
use Rattle.safl_compiler.proofs.laws.one_program_law.Goals as goal

pub returns : goal.returns
returns c = one_program c.one_program_law.ensures c.one_form_law.ensures
