use Rattle.safl_check.proofs.Common.{heads, rewritten, shown_definition, shown_definitions}
use Rattle.std.proofs.Common.{Some, None}
use Rattle.safl_check.proofs.LimitsInOrder.{body_at, lists_of, sites_of, list_stops, sum_stops, searched_next}
use Rattle.safl_check.proofs.limits.find_limit_fault.Goals as goal

pub returns-in-Some : goal.returns-in-Some
returns-in-Some c =
    let all = heads (shown_definitions c.args.defs.now) in
    let body = rewritten (shown_definition c.index-defs-number.result).body in
    let at = body_at c.args.defs.now c.loop-number.number c.index-defs-number.result c.loop-number-test.true c.index-defs-number.is in
    let lists = lists_of (Some c.in-Some.fault) c.index-defs-number.result c.deref.result.now c.in_ok-measures.measures.long_let body
    c.deref.ensures.value c.in_ok-measures.ensures.long_let c.in-Some.ensures in
    list_stops all c.args.defs.now c.loop-number.number c.loop-number.unit c.loop-number.sites c.loop-number.nodes c.index-defs-number.result body c.in-Some.fault c.loop-number.invariant at lists

pub returns-in-Some-find_sum_fault : goal.returns-in-Some-find_sum_fault
returns-in-Some-find_sum_fault c =
    let all = heads (shown_definitions c.args.defs.now) in
    let body = rewritten (shown_definition c.index-defs-number.result).body in
    let at = body_at c.args.defs.now c.loop-number.number c.index-defs-number.result c.loop-number-test.true c.index-defs-number.is in
    let lists = lists_of None c.index-defs-number.result c.deref.result.now c.in_ok-measures.measures.long_let body c.deref.ensures.value c.in_ok-measures.ensures.long_let c.in_default.ensures in
    let sites = sites_of c.args.all_heads.now all c.next_unit-unit.result c.loop-number.sites c.in_ok-measures.measures.sites body c.requires.heads c.in_ok-measures.ensures.sites in
    sum_stops all c.args.defs.now c.loop-number.number c.loop-number.unit c.loop-number.sites c.loop-number.nodes c.index-defs-number.result body
    c.next_unit-unit.result c.in_ok-measures.measures.sites c.in_ok-measures.measures.nodes c.in-Some-find_sum_fault.fault
    c.loop-number.invariant at c.next_unit-unit.ensures sites c.in_ok-measures.ensures.nodes lists c.in-Some-find_sum_fault.ensures

pub loop-number-preserved : goal.loop-number-preserved
loop-number-preserved c =
    let all = heads (shown_definitions c.args.defs.now) in
    let body = rewritten (shown_definition c.index-defs-number.result).body in
    let at = body_at c.args.defs.now c.loop-number.number c.index-defs-number.result c.loop-number-test.true c.index-defs-number.is in
    let lists = lists_of None c.index-defs-number.result c.deref.result.now c.in_ok-measures.measures.long_let body c.deref.ensures.value c.in_ok-measures.ensures.long_let c.in_default.ensures in
    let sites = sites_of c.args.all_heads.now all c.next_unit-unit.result c.loop-number.sites c.in_ok-measures.measures.sites body c.requires.heads c.in_ok-measures.ensures.sites in
    searched_next all c.args.defs.now c.loop-number.number c.loop-number.unit c.loop-number.sites c.loop-number.nodes c.index-defs-number.result body
    c.next_unit-unit.result c.in_ok-measures.measures.sites c.in_ok-measures.measures.nodes
    c.loop-number.invariant at c.next_unit-unit.ensures sites c.in_ok-measures.ensures.nodes lists c.in_default-find_sum_fault.ensures
