use Rattle.safl_vread.proofs.Common.{Some, ap, shown_spot, shown_spots, ◌∙◌}
use Rattle.safl_vread.proofs.NamesLookedUp.{item_at, refused, added}
use Rattle.safl_vread.proofs.names.header_names.Goals as goal

pub returns-then-not-branch-clause-faults : goal.returns-then-not-branch-clause-faults
returns-then-not-branch-clause-faults c = ap Some c.fault_at.ensures ∙ refused (shown_spots c.args.text.now c.args.header.now) c.loop-x.x-index _
    c.loop-x.names (item_at (shown_spot c.args.text.now) c.args.header.now c.loop-x.x-index _ c.loop-x-test.true) c.loop-x.invariant
    c.bytes_of.result.now c.bytes_of.ensures c.in_ok-add.field-0 c.in_ok-add.ensures.new c.if-not-branch.true

pub loop-x-preserved : goal.loop-x-preserved
loop-x-preserved c = added (shown_spots c.args.text.now c.args.header.now) c.loop-x.x-index _ c.loop-x.names
    (item_at (shown_spot c.args.text.now) c.args.header.now c.loop-x.x-index _ c.loop-x-test.true) c.loop-x.invariant c.bytes_of.result.now
    c.bytes_of.ensures c.in_ok-add.field-0 c.in_ok-add.ensures.new c.add.new.self c.in_ok-add.ensures.names c.if-not-branch.false
