use Rattle.std.proofs.lemmas.Nat.{ones-le, xor_lt}
use Rattle.std.specs.Prelude.{bit_xor}
use Rattle.safl_probe.proofs.starts_and_toggles.difference.Goals as goal

pub returns-clause-most : goal.returns-clause-most
returns-clause-most c =
    ones-le 128 (bit_xor c.args.last c.args.number) (xor_lt 128 c.args.last c.args.number c.ranges.last.fits c.ranges.number.fits)
