use Rattle.std.proofs.Common.{true, false, not, ◌==◌, refl, sym, ap, ◌∙◌}
use Rattle.std.proofs.lemmas.Bool.{ne_eqb, eqb-false}
use Rattle.safl_opt.proofs.Sparing.{not_then_false}
use Rattle.safl_opt.proofs.spare.is_choice.Goals as goal

pub returns-then-is_constant : goal.returns-then-is_constant
returns-then-is_constant c = ((λ e. absurd (let z = e in cc)), (λ w. absurd (let a = w.0 in let b = c.if-is_constant.true in let k = c.is_constant.ensures in cc)))

pub returns : goal.returns
returns c = (
  (λ e. (sym c.is_constant.ensures ∙ c.if-is_constant.false, eqb-false c.args.a.0 c.args.b.0 (not_then_false (c.args.a.0 == c.args.b.0) (c.args.a.0 == c.args.b.0) refl e))),
  (λ w. ap not (ne_eqb c.args.a.0 c.args.b.0 w.1)),
)
