use Rattle.std.proofs.Common.{◌+◌, [], length, get_or, slice_get, sym, ap, subst, ◌∙◌, arith}
use Rattle.std.proofs.lemmas.Option.{slice_get-get_or}
use Rattle.safl_net.specs.declared.cell.Sig.{Sig}
use Rattle.safl_net.proofs.Keeping.{numbers_length}
use Rattle.safl_sim.specs.Readers.{AreLists}
use Rattle.safl_sim.proofs.Builds.{numbers_at}
use Rattle.safl_sim.proofs.Tables.{lists_operand, lists_step}
use Rattle.safl_sim.proofs.table.push_operands.Goals as goal

abbrev none : Sig
none = record { 0 = 0 }

pub push-requires : goal.push-requires
push-requires c =
    let t = get_or c.args.operands.now c.operands.i none in
    let a = c.requires.within c.operands.i t (slice_get-get_or c.args.operands.now c.operands.i none c.operands-test.true) in
    let b = c.operands.invariant.long in
    omega (arith, a, b)

pub operands-preserved : goal.operands-preserved
operands-preserved c =
    let t = get_or c.args.operands.now c.operands.i none in
    let a = c.requires.within c.operands.i t (slice_get-get_or c.args.operands.now c.operands.i none c.operands-test.true) in
    let v = get_or c.operands.lists t.0 [] in
    let here = slice_get-get_or c.operands.lists t.0 [] (let b = c.operands.invariant.long in omega (arith, a, b)) in
    record {
      long = c.push.ensures.long ∙ c.operands.invariant.long;
      lists = λ n ws regs s at is w. subst (λ l. AreLists n ws regs (c.args.k + 1) (c.operands.i + 1) l) (sym (c.in_ok-push.ensures.pushed v here))
          (lists_operand n ws regs c.args.k c.operands.i s t.0 c.operands.lists v (c.operands.invariant.lists n ws regs s at is w) at
          (ap (λ l. slice_get l c.operands.i) is ∙ numbers_at c.args.operands.now c.operands.i none c.operands-test.true) here);
    }

pub returns-clause-more : goal.returns-clause-more
returns-clause-more c = λ n ws regs s at is w.
    lists_step n ws regs c.args.k c.operands.i s c.operands.lists (c.operands.invariant.lists n ws regs s at is w) at
    (let a = c.operands-test.false in let b = numbers_length c.args.operands.now in let d = ap length is in omega (arith, a, b, d))
