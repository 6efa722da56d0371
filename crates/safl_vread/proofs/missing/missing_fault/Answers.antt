use Rattle.safl_vread.proofs.Common.{shown_declaration, sym, ◌∙◌}
use Rattle.safl_vread.proofs.NotDriven.{missing_stops, missing_goes_on}
use Rattle.safl_vread.proofs.missing.missing_fault.Goals as goal

pub returns-then-is_some : goal.returns-then-is_some
returns-then-is_some c = λ ss h. missing_stops (shown_declaration c.args.scope.now.text.now) c.args.scope.now.declarations.now ss c.args.drivers.now h
    c.loop-i.i _ c.index-drivers-i.result c.loop-i-test.true c.index-drivers-i.is c.open_fault-fault.result c.open_fault-fault.ensures
    (sym c.is_some.ensures ∙ c.if-is_some.true) (c.loop-i.invariant ss h)

pub loop-i-preserved : goal.loop-i-preserved
loop-i-preserved c = λ ss h. missing_goes_on (shown_declaration c.args.scope.now.text.now) c.args.scope.now.declarations.now ss c.args.drivers.now h
    c.loop-i.i _ c.index-drivers-i.result c.loop-i-test.true c.index-drivers-i.is c.open_fault-fault.result c.open_fault-fault.ensures
    (sym c.is_some.ensures ∙ c.if-is_some.false) (c.loop-i.invariant ss h)
