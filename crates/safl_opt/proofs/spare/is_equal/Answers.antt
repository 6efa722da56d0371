use Rattle.std.proofs.lemmas.Bool.{eqb-true, eq-eqb}
use Rattle.safl_opt.proofs.spare.is_equal.Goals as goal

pub returns : goal.returns
returns c = ((λ e. eqb-true c.args.a.0 c.args.b.0 e), (λ w. eq-eqb c.args.a.0 c.args.b.0 w))
