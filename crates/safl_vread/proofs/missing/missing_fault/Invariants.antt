use Rattle.safl_vread.proofs.Common.{HasDrivers, List, first, flat_map, shown_declaration, shown_declarations, ◌≡◌}
use Rattle.safl_verilog.specs.Files.{Statement}
use Rattle.safl_verilog.specs.Faults.{missing_faults}
use Rattle.safl_vread.proofs.FirstOfSeveral.{first_from}
use Rattle.safl_vread.proofs.missing.missing_fault.Given as goal

abbrev pub invariant-loop-i : goal.invariant-loop-i
invariant-loop-i l = (ss : List Statement) → HasDrivers (shown_declarations l.scope.text.now l.scope.declarations.now) ss l.drivers
    → first_from (shown_declaration l.scope.text.now) (missing_faults ss) l.scope.declarations.now l.i ≡ first
    (flat_map (missing_faults ss) (shown_declarations l.scope.text.now l.scope.declarations.now))
