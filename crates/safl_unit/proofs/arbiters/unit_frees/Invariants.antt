use Rattle.safl_unit.proofs.Common.{Builds, length, row_at, summed, ◌*◌}
use Rattle.safl_unit.specs.Arbiters.{RowsFree}
use Rattle.safl_unit.proofs.arbiters.unit_frees.Given as goal

abbrev pub invariant-loop-f : goal.invariant-loop-f
invariant-loop-f l = record {
  built : Builds l.initial.net l.net (3 * summed (λ u. length (row_at l.rows.items u)) l.f);
  so_far : RowsFree l.p.program l.p.choice l.net l.pins.bank.units.items l.rows.items l.out.items l.f;
}
