use Rattle.std.proofs.Common.{◌<◌, ◌^◌, arith}
use Rattle.safl_word.proofs.Arith.{low_of_difference}
use Rattle.safl_word.proofs.operators.difference.Goals as goal

pub returns : goal.returns
returns c =
    let fits : c.args.b.bits < 2 ^ c.args.a.width = rw c.requires c.bits-subtrahend.ensures.word.fits in
    let e = low_of_difference c.args.a.bits c.args.b.bits c.args.a.width (omega arith) fits in cc
