use Rattle.safl_lower.specs.Rows.{row_at}
use Rattle.safl_lower.proofs.JoinedRows.{fit_kept}
use Rattle.safl_lower.proofs.rows.join_loads.Goals as goal

pub join_rows-requires-clause-fits : goal.join_rows-requires-clause-fits
join_rows-requires-clause-fits c = λ i n m h. let f = c.requires.fits in (f.0 i, fit_kept h (row_at c.args.rows.now i) (f.0 i) (f.1 i))
