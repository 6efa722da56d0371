use Rattle.safl_lower.proofs.Common.{Builds, Owner, TailCall, grows_on, shown_term}
use Rattle.std.proofs.Common.{◌≡◌, ◌+◌, ◌-◌, ◌<◌, ℕ, List, map, ap, subst, sym, length, arith}
use Rattle.safl_term.specs.Terms.{Term}
use Rattle.safl_lower.proofs.Building.{source_grown}
use Rattle.safl_lower.specs.Entries.{site_of, member_of, Between, LoopsFit, cost}
use Rattle.safl_lower.specs.Lowering.{Lowerable}
use Rattle.safl_lower.specs.Loads.{Listed, Spreads, Merged}
use Rattle.safl_lower.specs.Bodies.{IsGroup}
use Rattle.safl_lower.proofs.FromProgram.{own_given, table_of}
use Rattle.safl_lower.proofs.Whole.{lowerable, renumbered, lowered, spread_apart, spread_within, spread_called, merge_fit, merge_within, merge_cost, result_ready}
use Rattle.safl_lower.proofs.body.lower.Goals as goal

pub lower_term-requires-clause-able : goal.lower_term-requires-clause-able
lower_term-requires-clause-able c =
    let able = lowerable (own_given c.args.c.now c.body.ensures.checked c.args.f c.requires.function c.args.net.now c.args.ports c.requires.able) in
    subst (λ (k : ℕ). Lowerable c.args.net.now (record { first = k; ports = c.args.ports.sites }) c.args.ports.args.items c.args.ports.run (shown_term c.body.result.now)) (sym c.first_site.ensures)
    (subst (λ (t : Term). Lowerable c.args.net.now (table_of c.args.c.now c.args.f c.args.ports) c.args.ports.args.items c.args.ports.run t) (sym c.body.ensures.term) able)

pub end-requires-clause-run : goal.end-requires-clause-run
end-requires-clause-run c = source_grown c.lower_term.ensures.kept c.args.ports.run 1 c.requires.able.run

pub end-requires-clause-ready : goal.end-requires-clause-ready
end-requires-clause-ready c =
    let g = own_given c.args.c.now c.body.ensures.checked c.args.f c.requires.function c.args.net.now c.args.ports c.requires.able in
    let h = renumbered c.first_site.result (c.args.c.now.first_site c.args.f) c.first_site.ensures c.body.ensures.term c.in_ok-lowered.ensures.done in
    result_ready c.new.ensures.items c.new-2.ensures.items g h

pub end-requires-clause-room : goal.end-requires-clause-room
end-requires-clause-room c =
    let g = own_given c.args.c.now c.body.ensures.checked c.args.f c.requires.function c.args.net.now c.args.ports c.requires.able in
    let h = renumbered c.first_site.result (c.args.c.now.first_site c.args.f) c.first_site.ensures c.body.ensures.term c.in_ok-lowered.ensures.done in
    let i = h.count in
    let r = c.requires.able.room in
    record { tidy = c.in_ok-lowered.ensures.tidy; room = omega (arith, i, r) }

pub spread-requires-clause-apart : goal.spread-requires-clause-apart
spread-requires-clause-apart c =
    let g = own_given c.args.c.now c.body.ensures.checked c.args.f c.requires.function c.args.net.now c.args.ports c.requires.able in
    let h = renumbered c.first_site.result (c.args.c.now.first_site c.args.f) c.first_site.ensures c.body.ensures.term c.in_ok-lowered.ensures.done in
    spread_apart c.new.ensures.items c.new-2.ensures.items g h

pub spread-requires-clause-within : goal.spread-requires-clause-within
spread-requires-clause-within c =
    let g = own_given c.args.c.now c.body.ensures.checked c.args.f c.requires.function c.args.net.now c.args.ports c.requires.able in
    let h = renumbered c.first_site.result (c.args.c.now.first_site c.args.f) c.first_site.ensures c.body.ensures.term c.in_ok-lowered.ensures.done in
    let n = c.len.ensures in
    let k : c.len.result ≡ length c.args.ports.sites.items = omega (arith, n, c.args.ports.sites.ok.0) in
    subst (λ (j : ℕ). Between j (j + c.len.result) (map site_of c.lower_term.new.out.wants.items)) (sym c.first_site.ensures)
    (subst (λ (j : ℕ). Between (c.args.c.now.first_site c.args.f) (c.args.c.now.first_site c.args.f + j)
    (map site_of c.lower_term.new.out.wants.items)) (sym k) (spread_within c.new.ensures.items c.new-2.ensures.items g h))

pub spread-requires-clause-called : goal.spread-requires-clause-called
spread-requires-clause-called c =
    let g = own_given c.args.c.now c.body.ensures.checked c.args.f c.requires.function c.args.net.now c.args.ports c.requires.able in
    let h = renumbered c.first_site.result (c.args.c.now.first_site c.args.f) c.first_site.ensures c.body.ensures.term c.in_ok-lowered.ensures.done in
    let n = c.len.ensures in
    let k : c.len.result ≡ length c.args.ports.sites.items = omega (arith, n, c.args.ports.sites.ok.0) in
    subst (λ (j : ℕ). (i : ℕ) → i < c.len.result → Listed (j + i) (map site_of c.lower_term.new.out.wants.items)) (sym c.first_site.ensures)
    (subst (λ (j : ℕ). (i : ℕ) → i < j → Listed (c.args.c.now.first_site c.args.f + i) (map site_of c.lower_term.new.out.wants.items)) (sym k)
    (spread_called c.new.ensures.items c.new-2.ensures.items g h))

pub merge-requires-clause-fit : goal.merge-requires-clause-fit
merge-requires-clause-fit c =
    let g = own_given c.args.c.now c.body.ensures.checked c.args.f c.requires.function c.args.net.now c.args.ports c.requires.able in
    let h = renumbered c.first_site.result (c.args.c.now.first_site c.args.f) c.first_site.ensures c.body.ensures.term c.in_ok-lowered.ensures.done in
    subst (λ (es : List TailCall). (F : Owner) × LoopsFit F c.end.new.net es) (sym c.deref.ensures.value)
    (merge_fit c.new.ensures.items c.new-2.ensures.items g h c.end.new.net c.end.ensures.built.grows)

pub merge-requires-clause-within : goal.merge-requires-clause-within
merge-requires-clause-within c =
    let h = renumbered c.first_site.result (c.args.c.now.first_site c.args.f) c.first_site.ensures c.body.ensures.term c.in_ok-lowered.ensures.done in
    let a = c.unit-first_member.result in
    let u = c.unit-first_member.ensures.number in
    let most = c.group_end.ensures.above in
    let low = c.unit-first_member.ensures.within in
    subst (λ (es : List TailCall). Between a (a + (c.group_end.result - a)) (map member_of es)) (sym c.deref.ensures.value)
    (merge_within c.args.c.now c.body.ensures.checked c.args.f c.requires.function c.args.ports c.requires.able c.new-2.ensures.items h a (a + (c.group_end.result - a))
    (λ i m e. let q = c.group_end.ensures.members i m e in let q0 = q.0 in let q1 = q.1 in (omega (arith, q0, u), omega (arith, q1, most, low))))

pub merge-requires-clause-room : goal.merge-requires-clause-room
merge-requires-clause-room c =
    let g = own_given c.args.c.now c.body.ensures.checked c.args.f c.requires.function c.args.net.now c.args.ports c.requires.able in
    let h = renumbered c.first_site.result (c.args.c.now.first_site c.args.f) c.first_site.ensures c.body.ensures.term c.in_ok-lowered.ensures.done in
    let k = merge_cost c.new.ensures.items c.new-2.ensures.items g h in
    let d = ap cost c.deref.ensures.value in
    let i = h.count in
    let e = c.in_ok-ending.ensures.built.count in
    let r = c.requires.able.room in
    record { tidy = c.in_ok-ending.ensures.built.tidy; room = omega (arith, k, d, i, e, r) }

pub returns-in_err-ending-clause-kept : goal.returns-in_err-ending-clause-kept
returns-in_err-ending-clause-kept c = grows_on c.lower_term.ensures.kept c.end.ensures.built.grows

pub returns-in_err-calls-clause-kept : goal.returns-in_err-calls-clause-kept
returns-in_err-calls-clause-kept c = grows_on c.lower_term.ensures.kept c.end.ensures.built.grows

pub returns-in_err-tails-clause-kept : goal.returns-in_err-tails-clause-kept
returns-in_err-tails-clause-kept c = grows_on c.lower_term.ensures.kept (grows_on c.end.ensures.built.grows c.merge.ensures.grows)

pub returns-clause-kept : goal.returns-clause-kept
returns-clause-kept c = grows_on c.lower_term.ensures.kept (grows_on c.end.ensures.built.grows c.merge.ensures.grows)

pub returns-clause-done : goal.returns-clause-done
returns-clause-done c =
    let g = own_given c.args.c.now c.body.ensures.checked c.args.f c.requires.function c.args.net.now c.args.ports c.requires.able in
    let h = renumbered c.first_site.result (c.args.c.now.first_site c.args.f) c.first_site.ensures c.body.ensures.term c.in_ok-lowered.ensures.done in
    let n = c.len.ensures in
    let k : c.len.result ≡ length c.args.ports.sites.items = omega (arith, n, c.args.ports.sites.ok.0) in
    let e = c.in_ok-ending.ensures in
    let m = c.in_ok-tails.ensures in
    let d = c.deref.ensures.value in
    let a = c.unit-first_member.result in
    let u = c.unit-first_member.ensures.number in
    let most = c.group_end.ensures.above in
    let top = c.group_end.ensures.within in
    let low = c.unit-first_member.ensures.within in
    let group : IsGroup c.args.c.now.program c.args.f (c.group_end.result - a) = record {
      within = omega (arith, u, top, most, low);
      inside = λ i x y. c.group_end.ensures.inside i x (omega (arith, y, u, most, low));
      members = λ i x y. let q = c.group_end.ensures.members i x y in let q0 = q.0 in let q1 = q.1 in (q0, omega (arith, q1, u, most, low));
    } in
    lowered c.args.c.now c.body.ensures.checked c.args.f c.requires.function c.args.ports
    (record { end = c.in_ok-ending.ending; wants = c.in_ok-calls.calls; loops = c.in_ok-tails.tails }) c.width.result (c.group_end.result - a)
    c.new.ensures.items c.new-2.ensures.items c.requires.able h e.built e.fits c.width.ensures.width e.value
    (subst (λ (j : ℕ). Spreads j (length c.args.ports.sites.items) c.lower_term.new.out.wants.items c.in_ok-calls.calls.items) c.first_site.ensures
    (subst (λ (j : ℕ). Spreads c.first_site.result j c.lower_term.new.out.wants.items c.in_ok-calls.calls.items) k c.in_ok-calls.ensures))
    group
    (subst (λ (es : List TailCall). Builds c.end.new.net c.merge.new.net (cost es)) d m.built)
    (subst (λ (j : ℕ). Merged j (c.group_end.result - a) c.end.new.net c.merge.new.net c.lower_term.new.out.loops.items c.in_ok-tails.tails.items) u
    (subst (λ (es : List TailCall). Merged a (c.group_end.result - a) c.end.new.net c.merge.new.net es c.in_ok-tails.tails.items) d m.merged))
