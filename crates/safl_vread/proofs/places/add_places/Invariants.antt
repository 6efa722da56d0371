use Rattle.safl_vparse.specs.Shown.{shown_declaration, shown_declarations}
use Rattle.safl_vread.proofs.Orders.{Adds}
use Rattle.safl_vread.proofs.places.add_places.Given as goal

abbrev pub invariant-loop-i : goal.invariant-loop-i
invariant-loop-i l = Adds (shown_declarations l.scope.text.now l.scope.declarations.now) (shown_declaration l.scope.text.now) l.scope.declarations.now l.sort l.initial.order.items l.order.items l.i
