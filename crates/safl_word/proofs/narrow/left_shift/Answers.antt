use Rattle.safl_word.proofs.Common.{arith, lt-ltb}
use Rattle.safl_word.proofs.LowBits.{low_of_shifted}
use Rattle.safl_word.proofs.narrow.left_shift.Goals as goal

pub returns-then-b-from : goal.returns-then-b-from
returns-then-b-from c =
    let e = low_of_shifted c.args.a c.args.b c.args.width c.requires.narrow in
    let less = lt-ltb c.args.b c.args.width (omega arith) in
    rw less (cc)
