use Rattle.std.proofs.Common.{Some}
use Rattle.safl_lower.proofs.JoinedRows.{fit_kept}
use Rattle.safl_lower.proofs.KnownLoads.{load_kept}
use Rattle.safl_lower.proofs.Joints.{first_kept}
use Rattle.safl_lower.proofs.rows.LoadJoins.join.Goals as goal

pub returns-clause-joined : goal.returns-clause-joined
returns-clause-joined c = λ a k g n m h.
    let s = c.in_ok-first.ensures in
    let row = c.args.row.now in
    record {
      fits = λ ws f. load_kept h (s.fits ws (fit_kept g row ws f));
      first = first_kept h row (Some c.in_ok-first.first) (record { shows = s.shows; height = s.height });
    }
