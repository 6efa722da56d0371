use Rattle.std.proofs.Common.{ℕ, OnOk, sym, subst}
use Rattle.safl_lower.specs.Sources.{Builds, CanGrow}
use Rattle.safl_lower.specs.Rows.{row_at}
use Rattle.safl_lower.proofs.JoinedRows.{row_kept, four_total}
use Rattle.safl_lower.proofs.rows.join_several.Goals as goal

pub join_rows-requires-clause-fits : goal.join_rows-requires-clause-fits
join_rows-requires-clause-fits c = λ i n m h. row_kept h (row_at c.args.rows.now i) (c.requires.fits i)

pub join_rows-requires-clause-room : goal.join_rows-requires-clause-room
join_rows-requires-clause-room c = subst (CanGrow c.args.net.now) (sym (four_total c.args.rows.now)) c.requires.room

pub returns-clause-built : goal.returns-clause-built
returns-clause-built c = subst (λ (k : ℕ). OnOk c.join_rows.result (Builds c.args.net.now c.join_rows.new.net k)) (four_total c.args.rows.now) c.join_rows.ensures.built
