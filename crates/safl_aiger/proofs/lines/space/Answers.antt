use Rattle.std.proofs.Common.{List, ℕ, subst, arith}
use Rattle.std.proofs.lemmas.List.{take_all}
use Rattle.safl_aiger.proofs.Cutting.{Free, field_more, field_cut, fields_last}
use Rattle.safl_aiger.proofs.lines.space.Goals as goal

pub loop-end-preserved : goal.loop-end-preserved
loop-end-preserved c =
    let j = c.loop-end.invariant in
    let l = c.loop-end-test.true in
    record {
      high = omega (arith, l);
      free = field_more 32 c.args.line.now c.loop-end.end 0 l j.free c.if-line-end-ne32.true;
    }

pub returns-else-line-end-ne32-clause-some : goal.returns-else-line-end-ne32-clause-some
returns-else-line-end-ne32-clause-some c = λ l. field_cut c.args.line.now c.loop-end.end 0 l c.loop-end.invariant.free c.if-line-end-ne32.false

pub returns-after-loop-end-clause-none : goal.returns-after-loop-end-clause-none
returns-after-loop-end-clause-none c = λ e. fields_last c.args.line.now (subst (λ (xs : List ℕ). Free 32 xs) (take_all c.loop-end.end c.args.line.now (omega (arith, e))) c.loop-end.invariant.free)
