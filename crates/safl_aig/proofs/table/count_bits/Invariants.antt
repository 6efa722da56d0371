use Rattle.std.proofs.Common.{◌≡◌, ◌*◌, ◌≤◌}
use Rattle.safl_aig.specs.Tables.{bits_before, kind_test}
use Rattle.safl_aig.proofs.table.count_bits.Given as goal

abbrev pub invariant-signals : goal.invariant-signals
invariant-signals l = record {
  sum : l.sum ≡ bits_before (kind_test l.sort) l.net l.i;
  few : l.sum ≤ 256 * l.i;
}
