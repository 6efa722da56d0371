use Rattle.std.proofs.Common.{rules, ◌≡◌, [], arith}
use Rattle.safl_lower.proofs.Laid.{so_far_start, so_far_step, so_far_end, last_within}
use Rattle.safl_lower.proofs.calls_by_site.placed.Goals as goal

pub calls-init : goal.calls-init
calls-init c = so_far_start c.args.first c.args.count c.args.calls.items c.in_ok-table.table.items c.requires.apart c.requires.within c.in_ok-table.ensures.size c.in_ok-table.ensures.none

pub calls-preserved : goal.calls-preserved
calls-preserved c = so_far_step c.pop.new.self.items c.in-Some.call c.in-Some.ensures.items c.calls.invariant

pub calls-preserved-in-Some : goal.calls-preserved-in-Some
calls-preserved-in-Some c = so_far_step c.pop.new.self.items c.in-Some.call c.in-Some.ensures.items c.calls.invariant

pub overflow_sub-place : goal.overflow_sub-place
overflow_sub-place c = let h = last_within c.pop.new.self.items c.in-Some.call c.in-Some.ensures.items c.calls.invariant in let i = h.0 in omega (arith, i)

pub index_mut-requires : goal.index_mut-requires
index_mut-requires c =
    let h = last_within c.pop.new.self.items c.in-Some.call c.in-Some.ensures.items c.calls.invariant in
    let i = h.0 in
    let j = h.1 in
    let w = c.calls.invariant.size in
    omega (arith, i, j, w, c.calls.table.ok.0)

pub returns : goal.returns
returns c =
    let e : c.calls.left.items ≡ [] = search rules in
    so_far_end c.args.first c.args.count c.args.calls.items c.calls.left.items c.calls.table.items e c.calls.invariant
