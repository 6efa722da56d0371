use Rattle.safl_unit.proofs.Common.{Builds, MembersNext, ◌*◌}
use Rattle.safl_unit.proofs.edge.next_members.Given as goal

abbrev pub invariant-loop-f : goal.invariant-loop-f
invariant-loop-f l = record {
  built : Builds l.initial.net l.net (995 * l.f);
  table : MembersNext l.p.program l.net l.pins.bank.members.items l.events.entries.items l.events.rivals.items l.events.loads.items l.outcomes.loops.items l.all.items l.f;
}
