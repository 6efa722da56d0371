use Rattle.safl_unit.proofs.Common.{AreBits, CheckedProgram, Sig, bit_or, get_some, on, on_in, row_at, row_kept, unit_for, wired_before}
use Rattle.std.proofs.Common.{◌≡◌, ℕ, suc, ◌+◌, ◌*◌, ◌<◌, List, Bool, ◌&&◌, not, cond, length, slice_get, refl, sym, ap, subst, ◌∙◌, add-one, arith}
use Rattle.safl_lower.proofs.Building.{builds_on, builds_within, builds_same}
use Rattle.safl_unit.specs.Arbiters.{want_at, site_row}
use Rattle.safl_unit.proofs.equations.Keeping.{pins_kept, outcomes_kept, cycle_before}
use Rattle.safl_unit.proofs.equations.Indexing.{site_at, main_at, place_within}
use Rattle.safl_unit.proofs.equations.Granting.{Granted, none_granted, granted_on, more_granted, all_granted}
use Rattle.safl_unit.proofs.equations.Arbiting.{row_there, row_long, rows_tally, tally_cong, row_fits, want_fits, want_on, go_is, unit_first}
use Rattle.safl_unit.proofs.grants.grants.Goals as goal

pub main_grant-requires-clause-run : goal.main_grant-requires-clause-run
main_grant-requires-clause-run c = (c.requires.pins.bank.units c.args.p.now.program.main c.index.result.now
    (main_at c.args.p.now.checked c.checked-c.result.now c.args.pins.now.bank.units.items c.functions-functions.result c.index.result.now
    c.functions-functions.ensures.checked c.checked-c.ensures.same c.functions-functions.ensures.count c.requires.pins.bank.units_length c.index.ensures)).run

pub unit_frees-requires-clause-pins : goal.unit_frees-requires-clause-pins
unit_frees-requires-clause-pins c = pins_kept c.in_ok-main.ensures.built c.requires.pins

pub unit_frees-requires-clause-rows : goal.unit_frees-requires-clause-rows
unit_frees-requires-clause-rows c = λ u.
    let C = c.args.p.now.program in
    let ls = c.args.outcomes.now.wants.items in
    let n = c.main_grant.new.net in
    let o = (outcomes_kept c.in_ok-main.ensures.built c.requires.outcomes).fits in
    subst (AreBits n) (sym (c.in_ok-wants.ensures.rows u)) (row_fits C n ls u (λ k l. want_fits n ls (λ j. C.params (C.callee j)) C.sites k o.wants o.wants_length l) C.sites (omega arith))

pub unit_frees-requires-clause-room : goal.unit_frees-requires-clause-room
unit_frees-requires-clause-room c =
    let few = tally_cong (λ u. length (row_at c.in_ok-wants.wants.rows.items u))
    (λ u. length (site_row c.args.p.now.program c.args.outcomes.now.wants.items u c.args.p.now.program.sites))
    c.args.p.now.program.functions (λ u. ap (λ (x : List Sig). length x) (c.in_ok-wants.ensures.rows u)) in
    let most = rows_tally c.args.p.now.program c.args.outcomes.now.wants.items c.args.p.now.program.sites c.args.p.now.program.functions in
    let r = c.requires.room.room in
    let b = c.in_ok-main.ensures.built.count in
    record { tidy = c.in_ok-main.ensures.built.tidy; room = omega (arith, few, most, r, b) }

pub loop-done-init : goal.loop-done-init
loop-done-init c =
    let C = c.args.p.now.program in
    let at = main_at c.args.p.now.checked c.checked-c.result.now c.args.pins.now.bank.units.items c.functions-functions.result c.index.result.now
    c.functions-functions.ensures.checked c.checked-c.ensures.same c.functions-functions.ensures.count c.requires.pins.bank.units_length c.index.ensures in
    record {
      since = builds_same c.unit_frees.new.net c.unit_frees.new.net c.unit_frees.ensures.tidy refl 0;
      so_far = granted_on C c.args.p.now.choice c.main_grant.new.net c.unit_frees.new.net c.args.pins.now c.in_ok-goes.goes.items 0 _ c.in_ok-frees.ensures.built
          (none_granted C c.args.p.now.choice c.main_grant.new.net c.args.pins.now c.in_ok-goes.goes.items c.in_ok-main.main c.in_ok-goes.ensures.items c.in_ok-main.ensures.fits
          (λ v r i d. c.in_ok-main.ensures.value v d.wired ∙ ap (λ (x : Bool). x && not (on v c.index.result.now.run)) d.start ∙ ap
          (λ (x : Bool). i.start && not x) (d.bank.units C.main c.index.result.now at).run));
    }

pub site_grant-requires-clause-want : goal.site_grant-requires-clause-want
site_grant-requires-clause-want c =
    let C = c.args.p.now.program in
    let m = c.loop-done.done in
    let l = c.loop-done-test.true in
    let e = c.sites-sites.ensures.count in
    let k = c.sites-sites.ensures.count ∙ ap (λ (x : CheckedProgram). x.program.sites) c.checked-c.ensures.same in
    let at = site_at c.args.outcomes.now.wants.items m C.sites c.index-in-loop-done.result.now (omega (arith, l, k)) c.requires.outcomes.fits.wants_length c.index-in-loop-done.ensures in
    ((outcomes_kept (builds_on (builds_on c.in_ok-main.ensures.built c.in_ok-frees.ensures.built) c.loop-done.invariant.since)
    c.requires.outcomes).fits.wants (suc m) c.index-in-loop-done.result.now at).bit

pub site_grant-requires-clause-frees : goal.site_grant-requires-clause-frees
site_grant-requires-clause-frees c =
    let C = c.args.p.now.program in
    let m = c.loop-done.done in
    let l = c.loop-done-test.true in
    let e = c.sites-sites.ensures.count in
    let k = c.sites-sites.ensures.count ∙ ap (λ (x : CheckedProgram). x.program.sites) c.checked-c.ensures.same in
    let p = place_within c.args.p.now.checked c.checked-c.result.now m c.callee-callee.result c.unit-place.result
    c.functions-functions.ensures.checked c.checked-c.ensures.same (omega (arith, l, e)) c.callee-callee.ensures.number c.unit-place.ensures.number in
    let pe = p.0 in
    let pw = p.1 in
    let fr = c.in_ok-frees.ensures.done in
    let fc = fr.count in
    let row = row_there c.in_ok-frees.frees.items c.unit-place.result c.index-in-loop-done-2.result.now c.deref.result.now (omega (arith, pe, pw, fc))
    c.index-in-loop-done-2.ensures c.deref.ensures.value in
    subst (AreBits c.loop-done.net) (sym row) (row_kept c.loop-done.invariant.since (row_at c.in_ok-frees.frees.items c.unit-place.result) (fr.fits c.unit-place.result))

pub site_grant-requires-clause-rank : goal.site_grant-requires-clause-rank
site_grant-requires-clause-rank c = λ t.
    let C = c.args.p.now.program in
    let m = c.loop-done.done in
    let l = c.loop-done-test.true in
    let e = c.sites-sites.ensures.count in
    let k = c.sites-sites.ensures.count ∙ ap (λ (x : CheckedProgram). x.program.sites) c.checked-c.ensures.same in
    let p = place_within c.args.p.now.checked c.checked-c.result.now m c.callee-callee.result c.unit-place.result
    c.functions-functions.ensures.checked c.checked-c.ensures.same (omega (arith, l, e)) c.callee-callee.ensures.number c.unit-place.ensures.number in
    let pe = p.0 in
    let pw = p.1 in
    let fr = c.in_ok-frees.ensures.done in
    let fc = fr.count in
    let row = row_there c.in_ok-frees.frees.items c.unit-place.result c.index-in-loop-done-2.result.now c.deref.result.now (omega (arith, pe, pw, fc))
    c.index-in-loop-done-2.ensures c.deref.ensures.value in
    let P = c.args.p.now.choice in
    let ls = c.args.outcomes.now.wants.items in
    let u = unit_for C (suc m) in
    let rank = c.in_ok-wants.ensures.ranks m c.index-rank.result.now
    (site_at c.in_ok-wants.wants.ranks.items m C.sites c.index-rank.result.now (omega (arith, l, k)) c.in_ok-wants.ensures.ranks_count c.index-rank.ensures) in
    let callee : c.callee-callee.result ≡ C.callee (suc m) = c.callee-callee.ensures.number ∙ ap
    (λ (x : CheckedProgram). x.program.callee (m + 1)) c.checked-c.ensures.same ∙ ap C.callee (add-one m) in
    let arbiter : c.arbiter.result ≡ P.arbiter u = c.arbiter.ensures.entry ∙ ap (λ (f : ℕ). P.arbiter (C.unit f)) callee in
    let one = unit_first c.args.p.now.checked c.checked-c.result.now m c.functions-functions.ensures.checked c.checked-c.ensures.same (omega (arith, l, e)) in
    let a = ap (λ (xs : List Sig). length xs) (row ∙ ap (row_at c.in_ok-frees.frees.items) pe) in
    let b = fr.long u pw (ap P.arbiter one ∙ sym arbiter ∙ t) in
    let d = ap (λ (xs : List Sig). length xs) (c.in_ok-wants.ensures.rows u) in
    let f = row_long C ls u m (omega (arith, l, k)) refl in
    omega (arith, a, b, d, f, rank)

pub site_grant-requires-clause-room : goal.site_grant-requires-clause-room
site_grant-requires-clause-room c =
    let few = tally_cong (λ u. length (row_at c.in_ok-wants.wants.rows.items u))
    (λ u. length (site_row c.args.p.now.program c.args.outcomes.now.wants.items u c.args.p.now.program.sites))
    c.args.p.now.program.functions (λ u. ap (λ (x : List Sig). length x) (c.in_ok-wants.ensures.rows u)) in
    let most = rows_tally c.args.p.now.program c.args.outcomes.now.wants.items c.args.p.now.program.sites c.args.p.now.program.functions in
    let l = c.loop-done-test.true in
    let k = c.sites-sites.ensures.count ∙ ap (λ (x : CheckedProgram). x.program.sites) c.checked-c.ensures.same in
    let r = c.requires.room.room in
    let a = c.in_ok-main.ensures.built.count in
    let b = c.in_ok-frees.ensures.built.count in
    let d = c.loop-done.invariant.since.count in
    record { tidy = c.loop-done.invariant.since.tidy; room = omega (arith, few, most, l, k, r, a, b, d) }

pub loop-done-preserved : goal.loop-done-preserved
loop-done-preserved c =
    let C = c.args.p.now.program in
    let m = c.loop-done.done in
    let l = c.loop-done-test.true in
    let e = c.sites-sites.ensures.count in
    let k = c.sites-sites.ensures.count ∙ ap (λ (x : CheckedProgram). x.program.sites) c.checked-c.ensures.same in
    let p = place_within c.args.p.now.checked c.checked-c.result.now m c.callee-callee.result c.unit-place.result
    c.functions-functions.ensures.checked c.checked-c.ensures.same (omega (arith, l, e)) c.callee-callee.ensures.number c.unit-place.ensures.number in
    let pe = p.0 in
    let pw = p.1 in
    let fr = c.in_ok-frees.ensures.done in
    let fc = fr.count in
    let row = row_there c.in_ok-frees.frees.items c.unit-place.result c.index-in-loop-done-2.result.now c.deref.result.now (omega (arith, pe, pw, fc))
    c.index-in-loop-done-2.ensures c.deref.ensures.value in
    let P = c.args.p.now.choice in
    let ls = c.args.outcomes.now.wants.items in
    let us = c.args.pins.now.bank.units.items in
    let u = unit_for C (suc m) in
    let load = site_at ls m C.sites c.index-in-loop-done.result.now (omega (arith, l, k)) c.requires.outcomes.fits.wants_length c.index-in-loop-done.ensures in
    let bit : c.index-in-loop-done.result.now.bit ≡ want_at ls (suc m) = sym (ap (bit_or (record { 0 = 0 })) load) in
    let rank = c.in_ok-wants.ensures.ranks m c.index-rank.result.now
    (site_at c.in_ok-wants.wants.ranks.items m C.sites c.index-rank.result.now (omega (arith, l, k)) c.in_ok-wants.ensures.ranks_count c.index-rank.ensures) in
    let callee : c.callee-callee.result ≡ C.callee (suc m) = c.callee-callee.ensures.number ∙ ap
    (λ (x : CheckedProgram). x.program.callee (m + 1)) c.checked-c.ensures.same ∙ ap C.callee (add-one m) in
    let arbiter : c.arbiter.result ≡ P.arbiter u = c.arbiter.ensures.entry ∙ ap (λ (f : ℕ). P.arbiter (C.unit f)) callee in
    let ul = c.requires.pins.bank.units_length in
    let x = get_some us u (omega (arith, pw, ul)) in
    let built = builds_on (builds_on c.in_ok-main.ensures.built c.in_ok-frees.ensures.built) (builds_on c.loop-done.invariant.since c.in_ok-go.ensures.built) in
    let one = unit_first c.args.p.now.checked c.checked-c.result.now m c.functions-functions.ensures.checked c.checked-c.ensures.same (omega (arith, l, e)) in
    record {
      since = builds_on c.loop-done.invariant.since c.in_ok-go.ensures.built;
      so_far = subst (λ (i : ℕ). Granted C P c.site_grant.new.net c.args.pins.now c.push.new.self.items i) (sym (add-one m))
          (more_granted C P c.loop-done.net c.site_grant.new.net c.args.pins.now c.loop-done.goes.items c.push.new.self.items m 1 c.in_ok-go.go
          c.loop-done.invariant.so_far c.in_ok-go.ensures.built c.in_ok-go.ensures.fits
          (λ v r i d.
          let d0 = cycle_before built d in
          let wants = (λ (j : ℕ) (q : j < C.sites). want_on C P r i v ls j c.requires.outcomes.fits.wants_length q ((c.requires.outcomes.shows v r i d0).wants (suc j) (omega (arith, q)))) in
          c.in_ok-go.ensures.value v d.wired
          ∙ ap (λ (b : Bool). cond b (on v c.index-in-loop-done.result.now.bit && on_in v (slice_get c.deref.result.now c.index-rank.result.now)) (on v c.index-in-loop-done.result.now.bit)) arbiter
          ∙ ap (λ (s : Sig). cond (P.arbiter u) (on v s && on_in v (slice_get c.deref.result.now c.index-rank.result.now)) (on v s)) bit
          ∙ ap (λ (xs : List Sig). cond (P.arbiter u) (on v (want_at ls (suc m)) && on_in v (slice_get xs c.index-rank.result.now))
          (on v (want_at ls (suc m)))) (row ∙ ap (row_at c.in_ok-frees.frees.items) pe)
          ∙ go_is C P r i v c.unit_frees.new.net us c.in_ok-wants.wants.rows.items c.in_ok-frees.frees.items ls m c.index-rank.result.now x.0 fr
          (wired_before (builds_on c.loop-done.invariant.since c.in_ok-go.ensures.built).grows d.wired) (omega (arith, l, k))
          c.in_ok-wants.ensures.rows rank pw one x.1 ((d.bank.units u x.0 x.1).run ∙ ap r.run one) wants (wants m (omega (arith, l, k))))
          c.in_ok-push.ensures.items);
    }

pub returns-clause-built : goal.returns-clause-built
returns-clause-built c =
    let few = tally_cong (λ u. length (row_at c.in_ok-wants.wants.rows.items u))
    (λ u. length (site_row c.args.p.now.program c.args.outcomes.now.wants.items u c.args.p.now.program.sites))
    c.args.p.now.program.functions (λ u. ap (λ (x : List Sig). length x) (c.in_ok-wants.ensures.rows u)) in
    let most = rows_tally c.args.p.now.program c.args.outcomes.now.wants.items c.args.p.now.program.sites c.args.p.now.program.functions in
    let l = c.loop-done-test.false in
    let g = c.loop-done.auto.done-end in
    let e = c.sites-sites.ensures.count ∙ ap (λ (x : CheckedProgram). x.program.sites) c.checked-c.ensures.same in
    builds_within (5 * c.args.p.now.program.sites + 2)
    (builds_on (builds_on c.in_ok-main.ensures.built c.in_ok-frees.ensures.built) c.loop-done.invariant.since) (omega (arith, few, most, l, g, e))

pub returns-clause-done : goal.returns-clause-done
returns-clause-done c =
    let l = c.loop-done-test.false in
    let b = c.loop-done.auto.done-end in
    let e = c.sites-sites.ensures.count ∙ ap (λ (x : CheckedProgram). x.program.sites) c.checked-c.ensures.same in
    let k : c.loop-done.done ≡ c.args.p.now.program.sites = omega (arith, l, b, e) in
    all_granted c.args.p.now.program c.args.p.now.choice c.loop-done.net c.args.pins.now c.loop-done.goes.items
    (subst (λ (m : ℕ). Granted c.args.p.now.program c.args.p.now.choice c.loop-done.net c.args.pins.now c.loop-done.goes.items m) k c.loop-done.invariant.so_far)
