use Rattle.safl_unit.proofs.Common.{Builds, SitesNext, ◌*◌}
use Rattle.safl_unit.proofs.edge.next_sites.Given as goal

abbrev pub invariant-loop-done : goal.invariant-loop-done
invariant-loop-done l = record {
  built : Builds l.initial.net l.net (7 * l.done);
  table : SitesNext l.p.program l.p.choice l.net l.pins.bank.units.items l.pins.bank.sites.items l.returns.ret.items l.goes l.clears l.all.items l.done;
}
