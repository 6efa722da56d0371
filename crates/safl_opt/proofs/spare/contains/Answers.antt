use Rattle.std.proofs.Common.{Some, true, false, refl, sym, ap, ◌∙◌, below_more, arith}
use Rattle.safl_opt.proofs.Coming.{numbers_at}
use Rattle.safl_opt.proofs.Starting.{sig_or}
use Rattle.safl_opt.proofs.Marking.{number_from}
use Rattle.safl_opt.proofs.spare.contains.Goals as goal

pub loop-x-preserved : goal.loop-x-preserved
loop-x-preserved c = below_more _ _ c.loop-x.invariant (λ e. c.if-x-s.false (sig_or c.args.all.now c.loop-x.x-index ∙ e))

pub returns-then-x-s : goal.returns-then-x-s
returns-then-x-s c = ((λ e. (c.loop-x.x-index, numbers_at c.args.all.now c.loop-x.x-index (omega arith) ∙ ap Some (sym (sig_or c.args.all.now c.loop-x.x-index) ∙ c.if-x-s.true))), (λ w. refl))

pub returns : goal.returns
returns c = ((λ e. absurd (let z = e in cc)), (λ w. absurd (let r = number_from c.args.all.now w.0 c.args.s.0 w.1 in c.loop-x.invariant w.0 (let l = r.0 in omega (arith, l)) r.1)))
