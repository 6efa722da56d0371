use Rattle.safl_vread.proofs.Common.{first, flat_map, shown_statement, shown_statements, stated_number_faults, ◌≡◌}
use Rattle.safl_vread.proofs.FirstOfSeveral.{first_from}
use Rattle.safl_vread.proofs.numbers.stated_fault.Given as goal

abbrev pub invariant-loop-s : goal.invariant-loop-s
invariant-loop-s l = first_from (shown_statement l.text) stated_number_faults l.statements l.s-index ≡ first (flat_map stated_number_faults (shown_statements l.text l.statements))
