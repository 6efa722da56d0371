use Rattle.safl_lower.proofs.gates.operate.Goals as goal

pub cell-requires-clause-operands : goal.cell-requires-clause-operands
cell-requires-clause-operands c = c.requires.operands

pub returns : goal.returns
returns c = let e = c.cell.ensures in record { built = e.built; word = record { fits = e.word.fits; value = e.word.value }; gate = e.gate }
