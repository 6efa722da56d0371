use Rattle.safl_unit.proofs.Common.{PushesLoads, length, load_joins, loads_cost, total, ◌+◌, ◌≡◌, ◌≤◌}
use Rattle.safl_unit.proofs.bodies.push_loops.Given as goal

abbrev pub invariant-loop-load : goal.invariant-loop-load
invariant-loop-load l = record {
  count : length l.rows.items ≡ length l.initial.rows.items;
  place : l.place ≡ l.first_member + length l.yielded;
  pushed : PushesLoads l.first_member (length l.yielded) l.yielded l.initial.rows.items l.rows.items;
  gates : total load_joins l.rows.items ≤ total load_joins l.initial.rows.items + loads_cost l.yielded;
}
