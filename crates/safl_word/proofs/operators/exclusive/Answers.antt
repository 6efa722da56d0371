use Rattle.std.proofs.Common.{arith}
use Rattle.std.proofs.lemmas.Nat.{xor_lt}
use Rattle.safl_word.proofs.operators.exclusive.Goals as goal

pub from_parts-requires : goal.from_parts-requires
from_parts-requires c = record {
  some = omega arith;
  bounded = omega arith;
  fits =
      xor_lt c.width.result c.bits.result c.bits-2.result (rw (c.bits.ensures.value, c.width.ensures.value) c.bits.ensures.word.fits)
      (rw (c.bits-2.ensures.value, c.width.ensures.value, c.requires) c.bits-2.ensures.word.fits);
}
