use Rattle.safl_opt.proofs.Common.{are_constants, is_constant, numbers, take_all}
use Rattle.std.proofs.Common.{◌≡◌, ◌+◌, suc, take, true, false, sym, ap, ◌∙◌, arith}
use Rattle.safl_opt.proofs.Starting.{sig_or}
use Rattle.safl_opt.proofs.Sparing.{all_next, not_all}
use Rattle.safl_opt.proofs.spare.are_constants.Goals as goal

pub returns-then-not-is_constant : goal.returns-then-not-is_constant
returns-then-not-is_constant c =
    sym (not_all c.args.n.now c.args.all.now c.loop-s.s-index (omega arith)
    (ap (is_constant c.args.n.now) (sym (sig_or c.args.all.now c.loop-s.s-index)) ∙ sym c.is_constant.ensures ∙ c.if-not-is_constant.true))

pub loop-s-preserved : goal.loop-s-preserved
loop-s-preserved c =
    ap (λ k. are_constants c.args.n.now (numbers (take k c.args.all.now))) (let q : c.loop-s.s-index + 1 ≡ suc c.loop-s.s-index = omega arith in q)
    ∙ all_next c.args.n.now c.args.all.now c.loop-s.s-index (omega arith) c.loop-s.invariant
    (ap (is_constant c.args.n.now) (sym (sig_or c.args.all.now c.loop-s.s-index)) ∙ sym c.is_constant.ensures ∙ c.if-not-is_constant.false)

pub returns : goal.returns
returns c = sym c.loop-s.invariant ∙ ap (λ l. are_constants c.args.n.now (numbers l)) (take_all c.loop-s.s-index c.args.all.now c.loop-s-test.false)
