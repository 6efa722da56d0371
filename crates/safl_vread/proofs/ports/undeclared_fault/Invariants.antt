use Rattle.safl_vread.proofs.Common.{first, flat_map, header_faults, shown_declarations, shown_spot, shown_spots, without_statements, ◌≡◌}
use Rattle.safl_vread.proofs.FirstOfSeveral.{first_from}
use Rattle.safl_vread.proofs.ports.undeclared_fault.Given as goal

abbrev pub invariant-loop-x : goal.invariant-loop-x
invariant-loop-x l =
    first_from (shown_spot l.scope.text.now) (header_faults (without_statements (shown_spots l.scope.text.now l.header)
    (shown_declarations l.scope.text.now l.scope.declarations.now))) l.header l.x-index
    ≡ first (flat_map (header_faults (without_statements (shown_spots l.scope.text.now l.header)
    (shown_declarations l.scope.text.now l.scope.declarations.now))) (shown_spots l.scope.text.now l.header))
