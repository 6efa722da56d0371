use Rattle.std.proofs.Common.{arith, rules}
use Rattle.std.specs.Int.{w64}
use Rattle.std.proofs.lemmas.Nat.Bits.{bit_at-trailing_zeros}
use Rattle.safl_sim.proofs.Nearing.{take_held_has}
use Rattle.safl_sim.proofs.marks.take_held.Goals as goal

pub overflow_shl-result : goal.overflow_shl-result
overflow_shl-result c = (bit_at-trailing_zeros w64 c.args.held (omega arith) (search rules)).0

pub returns-else-held-eq0-clause-some : goal.returns-else-held-eq0-clause-some
returns-else-held-eq0-clause-some c = λ word marks h. take_held_has word c.args.held (omega arith) (search rules) marks h
