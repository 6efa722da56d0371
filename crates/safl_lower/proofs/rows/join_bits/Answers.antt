use Rattle.safl_lower.specs.Rows.{row_at}
use Rattle.safl_lower.proofs.JoinedRows.{row_kept}
use Rattle.safl_lower.proofs.rows.join_bits.Goals as goal

pub join_rows-requires-clause-fits : goal.join_rows-requires-clause-fits
join_rows-requires-clause-fits c = λ i n m h. row_kept h (row_at c.args.rows.now i) (c.requires.fits i)
