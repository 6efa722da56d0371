use Rattle.std.proofs.Common.{Some}
use Rattle.safl_lower.proofs.Joints.{any_kept}
use Rattle.safl_lower.proofs.rows.SigJoins.join.Goals as goal

pub returns-clause-joined : goal.returns-clause-joined
returns-clause-joined c = λ a k g n m h.
    let s = c.in_ok-any.ensures in
    any_kept h c.args.row.now (Some c.in_ok-any.any) (record { fits = s.fits; shows = s.value; height = λ j l. (s.height j l, tt) })
