use Rattle.safl_check.proofs.Common.{group_fault_at, shown_definitions}
use Rattle.std.proofs.Common.{sym, true}
use Rattle.safl_check.proofs.EarlierNames.{group_at, group_stops, group_next, joined_stops, joined_next}
use Rattle.safl_check.proofs.groups.find_group_fault.Goals as goal

pub returns-then-first : goal.returns-then-first
returns-then-first c = sym (group_at c.args.defs.now c.args.number c.index-defs-number.result true c.requires.number c.index-defs-number.is c.if-first.true)

pub returns-in-Some : goal.returns-in-Some
returns-in-Some c = group_stops c.args.defs.now c.args.number c.index-defs-number.result c.in-Some.fault c.requires.number c.index-defs-number.is c.if-first.false c.in-Some.ensures

pub loop-member-init : goal.loop-member-init
loop-member-init c = group_next c.args.defs.now c.args.number c.index-defs-number.result c.requires.number c.index-defs-number.is c.if-first.false c.in_default.ensures

pub returns-in-Some-find_head_fault : goal.returns-in-Some-find_head_fault
returns-in-Some-find_head_fault c =
    joined_stops c.args.defs.now c.loop-member.member c.index-defs-number.result.width c.index-defs-member.result c.in-Some-find_head_fault.fault
    (group_fault_at (shown_definitions c.args.defs.now) c.args.number) c.loop-member-test.true c.index-defs-member.is c.if-not-def.false
    c.loop-member.invariant c.in-Some-find_head_fault.ensures

pub loop-member-preserved : goal.loop-member-preserved
loop-member-preserved c =
    joined_next c.args.defs.now c.loop-member.member c.index-defs-number.result.width c.index-defs-member.result
    (group_fault_at (shown_definitions c.args.defs.now) c.args.number) c.loop-member-test.true c.index-defs-member.is c.if-not-def.false
    c.loop-member.invariant c.in_default-find_head_fault.ensures
