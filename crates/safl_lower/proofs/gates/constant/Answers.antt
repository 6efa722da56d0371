use Rattle.std.proofs.Common.{[], refl}
use Rattle.safl_lower.proofs.Cells.{no_sources}
use Rattle.safl_lower.proofs.gates.constant.Goals as goal

pub cell-requires-clause-operands : goal.cell-requires-clause-operands
cell-requires-clause-operands c = ([], c.args.word.width, no_sources c.args.net.now, refl)

pub returns : goal.returns
returns c = let e = c.cell.ensures in record { built = e.built; fits = e.word.fits [] c.args.word.width (no_sources c.args.net.now) refl; value = e.word.value }
