use Rattle.safl_vread.proofs.Common.{first, flat_map, shown_statement, shown_statements, stated_number_faults, sym, ◌∙◌}
use Rattle.safl_vread.proofs.FirstOfSeveral.{goes_on, stops, ends}
use Rattle.safl_vread.proofs.numbers.stated_fault.Goals as goal

pub returns-then-is_some : goal.returns-then-is_some
returns-then-is_some c = stops (shown_statement c.args.text.now) stated_number_faults c.args.statements.now c.loop-s.s-index _
    (first (flat_map stated_number_faults (shown_statements c.args.text.now c.args.statements.now))) c.statement_fault-fault.result c.loop-s-test.true
    c.statement_fault-fault.ensures (sym c.is_some.ensures ∙ c.if-is_some.true) c.loop-s.invariant

pub loop-s-preserved : goal.loop-s-preserved
loop-s-preserved c = goes_on (shown_statement c.args.text.now) stated_number_faults c.args.statements.now c.loop-s.s-index _
    (first (flat_map stated_number_faults (shown_statements c.args.text.now c.args.statements.now))) c.statement_fault-fault.result c.loop-s-test.true
    c.statement_fault-fault.ensures (sym c.is_some.ensures ∙ c.if-is_some.false) c.loop-s.invariant

pub returns : goal.returns
returns c = ends (shown_statement c.args.text.now) stated_number_faults c.args.statements.now c.loop-s.s-index
    (first (flat_map stated_number_faults (shown_statements c.args.text.now c.args.statements.now))) c.loop-s-test.false c.loop-s.invariant
