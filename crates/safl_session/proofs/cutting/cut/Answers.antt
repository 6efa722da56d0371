use Rattle.safl_session.proofs.PiecesOfText.{cut_short}
use Rattle.safl_session.proofs.cutting.cut.Goals as goal

pub returns-then-length-text : goal.returns-then-length-text
returns-then-length-text c = cut_short c.args.end c.args.text.now c.piece_length-length.result c.piece_length-length.ensures c.if-length-text.true
