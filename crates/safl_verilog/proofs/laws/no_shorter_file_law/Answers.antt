use Rattle.safl_verilog.proofs.Grammar.{no_shorter}
use Rattle.safl_verilog.proofs.laws.no_shorter_file_law.Goals as goal

pub returns : goal.returns
returns c = λ u v a b s t. no_shorter u v a b s.derived.1 t
