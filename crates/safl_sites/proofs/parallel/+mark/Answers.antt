use Rattle.safl_sites.proofs.Common.{MayReachIn, nil_from_length, shown_term, shown_terms, some_nodes}
use Rattle.std.proofs.Common.{rules, ◌<◌, List, length, length-set, subst, arith}
use Rattle.safl_term.specs.declared.term.Term as declared
use Rattle.safl_sites.proofs.PartsOfParts.{may_cond, may_then, may_else, may_bound, may_body, may_op, may_args, may_loop, may_first, may_rest, may_call}
use Rattle.safl_sites.proofs.SetsJoined.{mark_if, mark_let, mark_op, mark_loop, mark_call, mark_more, mark_const, mark_var, mark_nil, set_more}
use Rattle.safl_sites.proofs.parallel.+mark.Goals as goal

pub mark-mark-requires : goal.mark-mark-requires
mark-mark-requires t c = let ok = may_cond c.in-If.ensures c.requires.may.1 in search rules

pub mark-mark-requires-in-If : goal.mark-mark-requires-in-If
mark-mark-requires-in-If t c = let ok = may_then c.in-If.ensures c.requires.may.1 in search rules

pub mark-mark-requires-in-If-2 : goal.mark-mark-requires-in-If-2
mark-mark-requires-in-If-2 t c = let ok = may_else c.in-If.ensures c.requires.may.1 in search rules

pub mark-mark_in-requires : goal.mark-mark_in-requires
mark-mark_in-requires t c = let ok = may_bound c.in-Let.ensures c.requires.may.1 in search rules

pub mark-mark-requires-in-Let : goal.mark-mark-requires-in-Let
mark-mark-requires-in-Let t c = let ok = may_body c.in-Let.ensures c.requires.may.1 in search rules

pub mark-mark_in-requires-in-Op : goal.mark-mark_in-requires-in-Op
mark-mark_in-requires-in-Op t c = let ok = may_op c.in-Op.ensures c.requires.may.1 in search rules

pub mark-mark_in-requires-in-Call : goal.mark-mark_in-requires-in-Call
mark-mark_in-requires-in-Call t c =
    let ok = may_args c.in-Call.ensures c.requires.may.1 in
    let room = length-set c.args.sets.now c.in-Call.k c.union.new.self in
    search rules

pub mark-mark_in-requires-in-Loop : goal.mark-mark_in-requires-in-Loop
mark-mark_in-requires-in-Loop t c = let ok = may_loop c.in-Loop.ensures c.requires.may.1 in search rules

pub mark-returns-in-If : goal.mark-returns-in-If
mark-returns-in-If t c = λ b k. mark_if _ _ k b c.in-If.ensures (c.mark.ensures b k) (c.mark-in-If.ensures b k) (c.mark-in-If-2.ensures b k)

pub mark-returns-in-Let : goal.mark-returns-in-Let
mark-returns-in-Let t c = λ b k. mark_let _ _ k b c.in-Let.ensures (c.mark_in.ensures b k) (c.mark-in-Let.ensures b k)

pub mark-returns-in-Op : goal.mark-returns-in-Op
mark-returns-in-Op t c = λ b k. mark_op _ _ k b c.in-Op.ensures (c.mark_in-in-Op.ensures b k)

pub mark-returns-in-Loop : goal.mark-returns-in-Loop
mark-returns-in-Loop t c = λ b k. mark_loop _ _ k b c.in-Loop.ensures (c.mark_in-in-Loop.ensures b k)

pub mark-bounds-sets-k : goal.mark-bounds-sets-k
mark-bounds-sets-k t c = omega (arith, (may_call c.in-Call.ensures c.requires.may.1).most, c.requires.room)

pub mark-returns-in-Call : goal.mark-returns-in-Call
mark-returns-in-Call t c = λ b k.
    let within : c.in-Call.k < length c.args.sets.now = omega (arith, (may_call c.in-Call.ensures c.requires.may.1).most, c.requires.room) in
    mark_call _ _ k b c.in-Call.ensures (set_more c.args.sets.now c.in-Call.k c.union.new.self b k within (c.union.ensures k)) (c.mark_in-in-Call.ensures b k)

pub mark-returns-in-Const : goal.mark-returns-in-Const
mark-returns-in-Const t c = λ b k. mark_const _ _ k b c.in-Const.ensures

pub mark-returns-in-Var : goal.mark-returns-in-Var
mark-returns-in-Var t c = λ b k. mark_var _ _ k b c.in-Var.ensures

pub mark_in-mark-requires : goal.mark_in-mark-requires
mark_in-mark-requires t c =
    let may = subst (λ (x : List declared.Term). MayReachIn c.args.c.now.program c.args.units.now c.requires.may.0 (shown_terms x)) c.in-Some.ensures.cases.0 c.requires.may.1 in
    let ok = may_first may in
    search rules

pub mark_in-reach-requires : goal.mark_in-reach-requires
mark_in-reach-requires t c =
    let may = subst (λ (x : List declared.Term). MayReachIn c.args.c.now.program c.args.units.now c.requires.may.0 (shown_terms x)) c.in-Some.ensures.cases.0 c.requires.may.1 in
    (_, may_first may)

pub mark_in-mark_in-requires : goal.mark_in-mark_in-requires
mark_in-mark_in-requires t c =
    let may = subst (λ (x : List declared.Term). MayReachIn c.args.c.now.program c.args.units.now c.requires.may.0 (shown_terms x)) c.in-Some.ensures.cases.0 c.requires.may.1 in
    let ok = may_rest may in
    let some = some_nodes (shown_term c.in-Some.first.now) in
    search rules

pub mark_in-returns-in-Some : goal.mark_in-returns-in-Some
mark_in-returns-in-Some t c = λ b k. rw c.in-Some.ensures.cases.0 (mark_more _ _ k b _ _ (c.reach.ensures k) (c.mark.ensures b k) (c.mark_in.ensures b k))

pub mark_in-returns-in_default : goal.mark_in-returns-in_default
mark_in-returns-in_default t c = λ b k. rw (nil_from_length c.args.ts.now c.in_default.ensures.cases) (mark_nil _ _ k b)
