use Rattle.safl_unit.proofs.Common.{Builds, UnitsNext, ◌*◌}
use Rattle.safl_unit.proofs.edge.next_units.Given as goal

abbrev pub invariant-loop-f : goal.invariant-loop-f
invariant-loop-f l = record {
  built : Builds l.initial.net l.net (5 * l.f);
  table : UnitsNext l.p.program l.net l.pins.bank.units.items l.ends l.starts l.all.items l.f;
}
