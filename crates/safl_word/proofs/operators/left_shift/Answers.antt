use Rattle.safl_word.proofs.Common.{arith, lt-ltb}
use Rattle.safl_word.proofs.Arith.{low_of_shifted}
use Rattle.safl_word.proofs.operators.left_shift.Goals as goal

pub returns-then-amount-from : goal.returns-then-amount-from
returns-then-amount-from c =
    let e = low_of_shifted c.args.a.bits c.args.b.bits c.args.a.width (omega arith) in
    let less = lt-ltb c.args.b.bits c.args.a.width (omega arith) in
    rw less (cc)
