use Rattle.safl_verilog.proofs.ShorterTexts.{no_shorter_text}
use Rattle.safl_verilog.proofs.laws.no_shorter_text_law.Goals as goal

pub returns : goal.returns
returns c = no_shorter_text
