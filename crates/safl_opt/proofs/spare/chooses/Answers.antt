use Rattle.safl_opt.proofs.Common.{IsChoice, arith, subst, sym}
use Rattle.safl_opt.proofs.Sparing.{choice, three_numbers}
use Rattle.safl_opt.proofs.spare.chooses.Goals as goal

pub is_choice-requires : goal.is_choice-requires
is_choice-requires c = c.requires.known 0 (record { 0 = 0 }) (let t = c.requires.three in omega (arith, t))

pub returns : goal.returns
returns c =
    let q = three_numbers c.args.all.now c.requires.three in (
      (λ e. subst (IsChoice c.args.n.now) (sym q) (choice c.args.n.now _ _ _ (c.is_choice.ensures.0 e))),
      (λ w. c.is_choice.ensures.1 (w _ _ _ q)),
    )
