use Rattle.std.proofs.Common.{arith}
use Rattle.safl_word.proofs.Fits.{joined}
use Rattle.safl_word.proofs.Arith.{side_by_side}
use Rattle.safl_word.proofs.operators.concatenation.Goals as goal

pub from_parts-requires : goal.from_parts-requires
from_parts-requires c = record {
  some = omega arith;
  bounded = omega arith;
  fits =
      rw (c.bits.ensures.value, c.bits-2.ensures.value, c.width.ensures.value, c.width-2.ensures.value, c.width-3.ensures.value)
      (rw (side_by_side c.args.a.bits c.args.b.bits c.args.a.width c.args.b.width c.bits.ensures.word.fits c.bits-2.ensures.word.fits c.requires)
      (joined c.args.a.bits c.args.b.bits c.args.a.width c.args.b.width c.bits.ensures.word.fits c.bits-2.ensures.word.fits));
}

pub returns : goal.returns
returns c =
    let e = side_by_side c.args.a.bits c.args.b.bits c.args.a.width c.args.b.width c.bits.ensures.word.fits c.bits-2.ensures.word.fits c.requires in
    cc
