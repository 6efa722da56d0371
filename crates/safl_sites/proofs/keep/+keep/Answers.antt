use Rattle.safl_sites.proofs.Common.{Adds, Cons, Has, SiteSet, nil_from_length, shown_term, shown_terms, some_nodes}
use Rattle.std.proofs.Common.{rules, ◌≡◌, ℕ, ◌≤◌, List, ◌∷◌, ◌++◌, length, refl, sym, ap, subst, ◌∙◌, arith}
use Rattle.safl_term.specs.declared.term.Term as declared
use Rattle.safl_sites.specs.Keeping.{MayKeepIn, IsHeldHere, Binds}
use Rattle.safl_sites.proofs.AbleByParts.{keep_cond, keep_then, keep_else, keep_bound, keep_body, keep_op, keep_args, keep_loop, keep_first}
use Rattle.safl_sites.proofs.AbleByParts.{keep_rest, keep_slots, keep_slots_in, slot_within, bound_length}
use Rattle.safl_sites.proofs.FoundByParts.{walks_const, walks_var, walks_op, walks_loop, walks_call, walks_if, walks_let, walks_none, walks_more, binds_none, binds_more}
use Rattle.safl_sites.proofs.ReachBySites.{site_below}
use Rattle.safl_sites.proofs.SetsByWords.{set_found}
use Rattle.safl_sites.proofs.FoundRenamed.{walks_by, walks_of, held_from, inserted, walks_same, binds_same}
use Rattle.safl_sites.proofs.keep.+keep.Goals as goal

pub walk-walk-requires : goal.walk-walk-requires
walk-walk-requires t c = let ok = keep_cond c.in-If.ensures c.requires in search rules

pub walk-walk-requires-in-If : goal.walk-walk-requires-in-If
walk-walk-requires-in-If t c =
    let same = ap length c.in_ok-walk-in-If.ensures.same in
    let ok = keep_slots same (keep_then c.in-If.ensures c.requires) in
    search rules

pub walk-walk-requires-in-If-2 : goal.walk-walk-requires-in-If-2
walk-walk-requires-in-If-2 t c =
    let same = ap length (c.in_ok-walk-in-If-2.ensures.same ∙ c.in_ok-walk-in-If.ensures.same) in
    let ok = keep_slots same (keep_else c.in-If.ensures c.requires) in
    search rules

pub walk-bind_all-requires : goal.walk-bind_all-requires
walk-bind_all-requires t c = let ok = keep_bound c.in-Let.ensures c.requires in search rules

pub walk-hold-requires : goal.walk-hold-requires
walk-hold-requires t c = (_, keep_body c.in-Let.ensures c.requires)

pub walk-walk-requires-in-Let : goal.walk-walk-requires-in-Let
walk-walk-requires-in-Let t c = let ok = keep_slots (bound_length c.in_ok-bind_all-in-Let.ensures) (keep_body c.in-Let.ensures c.requires) in search rules

pub walk-walk_all-requires : goal.walk-walk_all-requires
walk-walk_all-requires t c = let ok = keep_op c.in-Op.ensures c.requires in search rules

pub walk-walk_all-requires-in-Call : goal.walk-walk_all-requires-in-Call
walk-walk_all-requires-in-Call t c = let ok = keep_args c.in-Call.ensures c.requires in search rules

pub walk-walk_all-requires-in-Loop : goal.walk-walk_all-requires-in-Loop
walk-walk_all-requires-in-Loop t c = let ok = keep_loop c.in-Loop.ensures c.requires in search rules

pub walk-insert-requires : goal.walk-insert-requires
walk-insert-requires t c = site_below c.in-Call.ensures c.requires.reach

pub walk-returns-in-Const-clause-done : goal.walk-returns-in-Const-clause-done
walk-returns-in-Const-clause-done t c = walks_by c.in-Const.ensures (walks_const _ _ _ _ _)

pub walk-returns-in-Var-clause-done : goal.walk-returns-in-Var-clause-done
walk-returns-in-Var-clause-done t c =
    let R = c.args.slots.now.items in
    let is = set_found R c.in-Var.slot c.index.result.now (slot_within c.in-Var.ensures c.requires) c.index.ensures in
    walks_by c.in-Var.ensures
    (walks_var _ R _ _ _ _ (λ k. subst (λ (r : SiteSet). Adds (Has c.args.feeds.now k) (Has c.union.new.self k) (Has r k)) is (c.union.ensures k)))

pub walk-index-requires : goal.walk-index-requires
walk-index-requires t c = omega (arith, slot_within c.in-Var.ensures c.requires, c.args.slots.now.ok.0)

pub walk-returns-in_ok-walk-in-If-3-clause-done : goal.walk-returns-in_ok-walk-in-If-3-clause-done
walk-returns-in_ok-walk-in-If-3-clause-done t c =
    let first = c.in_ok-walk-in-If.ensures.done in
    let second = walks_of c.in_ok-walk-in-If.ensures.same c.in_ok-walk-in-If-2.ensures.done in
    let third = walks_of (c.in_ok-walk-in-If-2.ensures.same ∙ c.in_ok-walk-in-If.ensures.same) c.in_ok-walk-in-If-3.ensures.done in
    walks_by c.in-If.ensures
    (walks_if _ _ _ _ _ _ _ _ _ _ (record { decides = c.union-in-If.new.self; held = c.walk.new.keeps.held }) _ _ _ _ _
    c.new-deciding.ensures first c.union-in-If.ensures c.union-in-If-2.ensures refl second third)

pub walk-returns-in_ok-walk-in-Let-clause-done : goal.walk-returns-in_ok-walk-in-Let-clause-done
walk-returns-in_ok-walk-in-Let-clause-done t c =
    let C = c.args.c.now.program in
    let R = c.args.slots.now.items in
    let M = c.bind_all.new.slots.items in
    let low : c.len-low.result ≡ length R = omega (arith, c.args.slots.now.ok.0) in
    let here : (k : ℕ) → 1 ≤ k → k ≤ C.sites → Adds (Has c.bind_all.new.keeps.held k) (Has c.hold.new.held k)
    (IsHeldHere C M (length R) k (shown_term c.in-Let.body.now)) = λ k p q. held_from c.deref.ensures.value low (c.hold.ensures k p q) in
    walks_by c.in-Let.ensures
    (walks_let C R M _ _ c.args.keeps.now c.bind_all.new.keeps (record { decides = c.bind_all.new.keeps.decides; held = c.hold.new.held }) _ _ _
    c.in_ok-bind_all-in-Let.ensures refl here c.in_ok-walk-in-Let.ensures.done)

pub walk-returns-in_ok-walk_all-in-Op-clause-done : goal.walk-returns-in_ok-walk_all-in-Op-clause-done
walk-returns-in_ok-walk_all-in-Op-clause-done t c = walks_by c.in-Op.ensures (walks_op _ _ _ _ _ _ _ _ c.in_ok-walk_all-in-Op.ensures.done)

pub walk-returns-in_ok-walk_all-in-Call-clause-done : goal.walk-returns-in_ok-walk_all-in-Call-clause-done
walk-returns-in_ok-walk_all-in-Call-clause-done t c = walks_by c.in-Call.ensures (walks_call _ _ _ _ _ _ _ _ _ _ _ c.insert.ensures c.in_ok-walk_all-in-Call.ensures.done)

pub walk-returns-in_ok-walk_all-in-Loop-clause-done : goal.walk-returns-in_ok-walk_all-in-Loop-clause-done
walk-returns-in_ok-walk_all-in-Loop-clause-done t c = walks_by c.in-Loop.ensures (walks_loop _ _ _ _ _ _ _ _ _ c.in_ok-walk_all-in-Loop.ensures.done)

pub bind_all-walk-requires : goal.bind_all-walk-requires
bind_all-walk-requires t c =
    let may = subst (λ (x : List declared.Term). MayKeepIn c.args.c.now.program c.args.units.now c.args.peers.now (length c.args.slots.now.items)
    (shown_terms x)) c.in-Some.ensures.cases.0 c.requires in
    let ok = keep_first may in
    search rules

pub walk_all-walk-requires : goal.walk_all-walk-requires
walk_all-walk-requires t c =
    let may = subst (λ (x : List declared.Term). MayKeepIn c.args.c.now.program c.args.units.now c.args.peers.now (length c.args.slots.now.items)
    (shown_terms x)) c.in-Some.ensures.cases.0 c.requires in
    let ok = keep_first may in
    search rules

pub bind_all-bind_all-requires : goal.bind_all-bind_all-requires
bind_all-bind_all-requires t c =
    let may = subst (λ (x : List declared.Term). MayKeepIn c.args.c.now.program c.args.units.now c.args.peers.now (length c.args.slots.now.items)
    (shown_terms x)) c.in-Some.ensures.cases.0 c.requires in
    let same = ap length c.in_ok-walk.ensures.same in
    let ok = keep_slots_in same (keep_rest may) in
    let some = some_nodes (shown_term c.in-Some.first.now) in
    search rules

pub walk_all-walk_all-requires : goal.walk_all-walk_all-requires
walk_all-walk_all-requires t c =
    let may = subst (λ (x : List declared.Term). MayKeepIn c.args.c.now.program c.args.units.now c.args.peers.now (length c.args.slots.now.items)
    (shown_terms x)) c.in-Some.ensures.cases.0 c.requires in
    let same = ap length c.in_ok-walk.ensures.same in
    let ok = keep_slots_in same (keep_rest may) in
    let some = some_nodes (shown_term c.in-Some.first.now) in
    search rules

pub walk_all-returns-in_default-clause-done : goal.walk_all-returns-in_default-clause-done
walk_all-returns-in_default-clause-done t c = rw (nil_from_length c.args.ts.now c.in_default.ensures.cases) (walks_none _ _ _ _)

pub bind_all-returns-in_default : goal.bind_all-returns-in_default
bind_all-returns-in_default t c = rw (nil_from_length c.args.ts.now c.in_default.ensures.cases) (binds_none _ _ _)

pub walk_all-returns-clause-done : goal.walk_all-returns-clause-done
walk_all-returns-clause-done t c = rw c.in-Some.ensures.cases.0
    (walks_more _ _ _ _ _ _ _ _ _ _ c.in_ok-walk.ensures.done (walks_same c.in_ok-walk.ensures.same c.in_ok-walk_all.ensures.done))

pub bind_all-returns : goal.bind_all-returns
bind_all-returns t c =
    let C = c.args.c.now.program in
    let R = c.args.slots.now.items in
    let rest = binds_same c.in_ok-walk.ensures.same c.in_ok-bind_all.ensures in
    let M = c.bind_all.new.slots.items in
    let at : c.len-at.result ≡ length R = omega (arith, c.walk.new.slots.ok.0, ap (λ (l : List SiteSet). length l) c.in_ok-walk.ensures.same) in
    let is : c.insert.new.self.items ≡ R ++ (c.walk.new.feeds ∷ rest.bound) = c.in_ok-insert.ensures.items ∙ inserted R rest.bound M c.len-at.result c.walk.new.feeds rest.joined at in
    rw c.in-Some.ensures.cases.0
    (subst (λ (l : List SiteSet). Binds C R l c.args.keeps.now c.bind_all.new.keeps (Cons (shown_term c.in-Some.first.now) (shown_terms c.in-Some.rest.now))) (sym is)
    (binds_more C R M _ _ _ _ _ _ _ c.new-set.ensures c.in_ok-walk.ensures.done rest))
