use Rattle.safl_vread.proofs.Common.{first, flat_map, port_faults, without_statements, ◌≡◌}
use Rattle.safl_vparse.specs.Shown.{shown_spots, shown_declaration, shown_declarations}
use Rattle.safl_vread.proofs.FirstOfSeveral.{first_from}
use Rattle.safl_vread.proofs.ports.unlisted_fault.Given as goal

abbrev pub invariant-loop-d : goal.invariant-loop-d
invariant-loop-d l =
    first_from (shown_declaration l.scope.text.now) (port_faults
    (without_statements (shown_spots l.scope.text.now l.header) (shown_declarations l.scope.text.now l.scope.declarations.now))) l.scope.declarations.now l.d-index
    ≡ first (flat_map (port_faults (without_statements (shown_spots l.scope.text.now l.header)
    (shown_declarations l.scope.text.now l.scope.declarations.now))) (shown_declarations l.scope.text.now l.scope.declarations.now))
