use Rattle.safl_lower.proofs.Joints.{several_kept}
use Rattle.safl_lower.proofs.rows.SeveralJoins.join.Goals as goal

pub returns-clause-joined : goal.returns-clause-joined
returns-clause-joined c = λ a k g n m h. several_kept h c.args.row.now c.in_ok-several.several c.in_ok-several.ensures.joined
