use Rattle.std.proofs.Common.{◌≡◌, ℕ, ◌+◌, ◌<◌, length}
use Rattle.safl_net.specs.Netlist.{is_input, is_register}
use Rattle.safl_aig.specs.Tables.{lits_at, source_lits, bits_before, input_count}
use Rattle.safl_aig.proofs.table.sources.Given as goal

abbrev pub invariant-signals : goal.invariant-signals
invariant-signals l = record {
  long : length l.table.items ≡ l.i;
  lits : (s : ℕ) → s < l.i → lits_at l.table.items s ≡ source_lits l.net s;
  input : l.input ≡ 1 + bits_before is_input l.net l.i;
  latch : l.latch ≡ 1 + input_count l.net + bits_before is_register l.net l.i;
}
