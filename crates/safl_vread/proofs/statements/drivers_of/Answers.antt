use Rattle.safl_vread.proofs.Common.{Driver, HasDrivers, shown_declarations, shown_statement}
use Rattle.std.proofs.Common.{sym, subst, List, map, take}
use Rattle.safl_verilog.specs.Files.{Declaration, Statement}
use Rattle.safl_vread.proofs.StatementLoop.{number_kept, stops_at, goes_past}
use Rattle.safl_vread.proofs.statements.drivers_of.Goals as goal

pub driver_of-requires-clause-numbers : goal.driver_of-requires-clause-numbers
driver_of-requires-clause-numbers c = number_kept _ (shown_statement c.args.scope.now.text.now) c.args.statements.now c.loop-s.s-index _ c.loop-s.drivers.items c.loop-s-test.true c.loop-s.invariant

pub returns-in-Err-clause-faults : goal.returns-in-Err-clause-faults
returns-in-Err-clause-faults c =
    let ds : List Declaration = shown_declarations c.args.scope.now.text.now c.args.scope.now.declarations.now in
    let before : List Statement = map (shown_statement c.args.scope.now.text.now) (take c.loop-s.s-index c.args.statements.now) in
    let h = subst (λ (l : List Driver). HasDrivers ds before l) (sym c.deref.ensures.value) c.loop-s.invariant.drivers in
    stops_at ds (shown_statement c.args.scope.now.text.now) c.args.statements.now c.loop-s.s-index _ c.loop-s.drivers.items c.loop-s-test.true
    c.loop-s.invariant c.in-Err.fault (c.in-Err.ensures.steps before h)

pub loop-s-preserved : goal.loop-s-preserved
loop-s-preserved c =
    let ds : List Declaration = shown_declarations c.args.scope.now.text.now c.args.scope.now.declarations.now in
    let before : List Statement = map (shown_statement c.args.scope.now.text.now) (take c.loop-s.s-index c.args.statements.now) in
    let h = subst (λ (l : List Driver). HasDrivers ds before l) (sym c.deref.ensures.value) c.loop-s.invariant.drivers in
    goes_past ds (shown_statement c.args.scope.now.text.now) c.args.statements.now c.loop-s.s-index _ c.loop-s.drivers.items c.loop-s-test.true
    c.loop-s.invariant c.args.scope.now.apart (c.in-Ok.place, c.in-Ok.driver) (c.in-Ok.ensures.steps before h)
