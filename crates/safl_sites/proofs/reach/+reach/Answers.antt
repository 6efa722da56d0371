use Rattle.safl_sites.proofs.Common.{List, MayReachIn, arith, nil_from_length, rules, shown_term, shown_terms, some_nodes, subst}
use Rattle.safl_term.specs.declared.term.Term as declared
use Rattle.safl_sites.proofs.AddsInSteps.{adds_then}
use Rattle.safl_sites.proofs.PartsOfParts.{may_cond, may_then, may_else, may_bound, may_body, may_op, may_args, may_loop, may_first, may_rest, may_call}
use Rattle.safl_sites.proofs.ReachBySites.{reach_if, reach_let, reach_op, reach_loop, reach_call, reach_const, reach_var, reach_more, reach_nil, set_of_unit, site_below}
use Rattle.safl_sites.proofs.reach.+reach.Goals as goal

pub reach-reach-requires : goal.reach-reach-requires
reach-reach-requires t c = let ok = may_cond c.in-If.ensures c.requires.1 in search rules

pub reach-reach-requires-in-If : goal.reach-reach-requires-in-If
reach-reach-requires-in-If t c = let ok = may_then c.in-If.ensures c.requires.1 in search rules

pub reach-reach-requires-in-If-2 : goal.reach-reach-requires-in-If-2
reach-reach-requires-in-If-2 t c = let ok = may_else c.in-If.ensures c.requires.1 in search rules

pub reach-reach_in-requires : goal.reach-reach_in-requires
reach-reach_in-requires t c = let ok = may_bound c.in-Let.ensures c.requires.1 in search rules

pub reach-reach-requires-in-Let : goal.reach-reach-requires-in-Let
reach-reach-requires-in-Let t c = let ok = may_body c.in-Let.ensures c.requires.1 in search rules

pub reach-reach_in-requires-in-Op : goal.reach-reach_in-requires-in-Op
reach-reach_in-requires-in-Op t c = let ok = may_op c.in-Op.ensures c.requires.1 in search rules

pub reach-reach_in-requires-in-Call : goal.reach-reach_in-requires-in-Call
reach-reach_in-requires-in-Call t c = let ok = may_args c.in-Call.ensures c.requires.1 in search rules

pub reach-reach_in-requires-in-Loop : goal.reach-reach_in-requires-in-Loop
reach-reach_in-requires-in-Loop t c = let ok = may_loop c.in-Loop.ensures c.requires.1 in search rules

pub reach-returns-in-If : goal.reach-returns-in-If
reach-returns-in-If t c = λ k. reach_if c.in-If.ensures (c.reach.ensures k) (c.reach-in-If.ensures k) (c.reach-in-If-2.ensures k)

pub reach-returns-in-Let : goal.reach-returns-in-Let
reach-returns-in-Let t c = λ k. reach_let c.in-Let.ensures (c.reach_in.ensures k) (c.reach-in-Let.ensures k)

pub reach-returns-in-Op : goal.reach-returns-in-Op
reach-returns-in-Op t c = λ k. reach_op c.in-Op.ensures (c.reach_in-in-Op.ensures k)

pub reach-returns-in-Loop : goal.reach-returns-in-Loop
reach-returns-in-Loop t c = λ k. reach_loop c.in-Loop.ensures (c.reach_in-in-Loop.ensures k)

pub reach-insert-requires : goal.reach-insert-requires
reach-insert-requires t c = site_below c.in-Call.ensures c.requires.1

pub reach-bounds-units-unit : goal.reach-bounds-units-unit
reach-bounds-units-unit t c = let may = c.requires.1 in omega (arith, (may_call c.in-Call.ensures may).lower, may.below.top, may.below.count)

pub reach-returns-in-Call : goal.reach-returns-in-Call
reach-returns-in-Call t c = λ k.
    let e = c.in-Call.ensures in
    let may = c.requires.1 in
    reach_call e (may_call e may).callee (adds_then (adds_then (c.insert.ensures k) (set_of_unit e may _ k c.unit.ensures.number (c.union.ensures k))) (c.reach_in-in-Call.ensures k))

pub reach-returns-in-Const : goal.reach-returns-in-Const
reach-returns-in-Const t c = λ k. reach_const c.in-Const.ensures

pub reach-returns-in-Var : goal.reach-returns-in-Var
reach-returns-in-Var t c = λ k. reach_var c.in-Var.ensures

pub reach_in-reach-requires : goal.reach_in-reach-requires
reach_in-reach-requires t c =
    let may = subst (λ (x : List declared.Term). MayReachIn c.args.c.now.program c.args.units.now c.requires.0 (shown_terms x)) c.in-Some.ensures.cases.0 c.requires.1 in
    let ok = may_first may in
    search rules

pub reach_in-reach_in-requires : goal.reach_in-reach_in-requires
reach_in-reach_in-requires t c =
    let may = subst (λ (x : List declared.Term). MayReachIn c.args.c.now.program c.args.units.now c.requires.0 (shown_terms x)) c.in-Some.ensures.cases.0 c.requires.1 in
    let ok = may_rest may in
    let some = some_nodes (shown_term c.in-Some.first.now) in
    search rules

pub reach_in-returns-in-Some : goal.reach_in-returns-in-Some
reach_in-returns-in-Some t c = λ k. rw c.in-Some.ensures.cases.0 (reach_more _ (c.reach.ensures k) (c.reach_in.ensures k))

pub reach_in-returns-in_default : goal.reach_in-returns-in_default
reach_in-returns-in_default t c = λ k. rw (nil_from_length c.args.ts.now c.in_default.ensures.cases) (reach_nil _ k)
