use Rattle.safl_vread.proofs.Common.{declared_number_faults, first, flat_map, shown_declaration, shown_declarations, sym, ◌∙◌}
use Rattle.safl_vread.proofs.FirstOfSeveral.{goes_on, stops, ends}
use Rattle.safl_vread.proofs.numbers.declared_fault.Goals as goal

pub returns-then-is_some : goal.returns-then-is_some
returns-then-is_some c = stops (shown_declaration c.args.text.now) declared_number_faults c.args.declarations.now c.loop-d.d-index _
    (first (flat_map declared_number_faults (shown_declarations c.args.text.now c.args.declarations.now))) c.range_fault-fault.result
    c.loop-d-test.true c.range_fault-fault.ensures (sym c.is_some.ensures ∙ c.if-is_some.true) c.loop-d.invariant

pub loop-d-preserved : goal.loop-d-preserved
loop-d-preserved c = goes_on (shown_declaration c.args.text.now) declared_number_faults c.args.declarations.now c.loop-d.d-index _
    (first (flat_map declared_number_faults (shown_declarations c.args.text.now c.args.declarations.now))) c.range_fault-fault.result
    c.loop-d-test.true c.range_fault-fault.ensures (sym c.is_some.ensures ∙ c.if-is_some.false) c.loop-d.invariant

pub returns : goal.returns
returns c = ends (shown_declaration c.args.text.now) declared_number_faults c.args.declarations.now c.loop-d.d-index
    (first (flat_map declared_number_faults (shown_declarations c.args.text.now c.args.declarations.now))) c.loop-d-test.false c.loop-d.invariant
