use Rattle.safl_vread.proofs.Common.{declared_number_faults, flat_map, shown_declaration, widths_of}
use Rattle.std.proofs.Common.{◌≡◌, [], drop}
use Rattle.std.specs.Prelude.{take, map}
use Rattle.safl_vread.proofs.scope.widths_of.Given as goal

abbrev pub invariant-loop-d : goal.invariant-loop-d
invariant-loop-d l = record {
  so_far : l.widths.items ≡ widths_of (map (shown_declaration l.text) (take l.d-index l.declarations));
  kept : flat_map declared_number_faults (map (shown_declaration l.text) (drop l.d-index l.declarations)) ≡ [];
}
