use Rattle.safl_vread.proofs.Common.{declared_number_faults, first, flat_map, shown_declaration, shown_declarations, ◌≡◌}
use Rattle.safl_vread.proofs.FirstOfSeveral.{first_from}
use Rattle.safl_vread.proofs.numbers.declared_fault.Given as goal

abbrev pub invariant-loop-d : goal.invariant-loop-d
invariant-loop-d l = first_from (shown_declaration l.text) declared_number_faults l.declarations l.d-index ≡ first (flat_map declared_number_faults (shown_declarations l.text l.declarations))
