use Rattle.safl_lower.proofs.Common.{AreSources, Builds, Sig, gate, grows_on, on, option_or, slice_get_read, words}
use Rattle.std.proofs.Common.{◌+◌, ◌&&◌, ◌==◌, ◌-◌, List, length, Some, refl, sym, ap, subst, ◌∙◌, arith}
use Rattle.safl_lower.specs.Tables.{taken_from}
use Rattle.safl_lower.specs.Loads.{member_widths}
use Rattle.safl_lower.proofs.Gathering.{merging_start, merging_step, merging_end, member_in, in_table, call_room, call_bit, call_sized}
use Rattle.safl_lower.proofs.merge.merge.Goals as goal

pub loop-call-init : goal.loop-call-init
loop-call-init c = record {
  merging = merging_start c.args.first c.args.members c.args.net.now c.requires.room.tidy c.args.calls.now
      c.in_ok-loads.loads.items c.in_ok-loads.ensures.size c.in_ok-loads.ensures.none;
}

pub overflow_sub-place : goal.overflow_sub-place
overflow_sub-place c =
    let at = slice_get_read c.args.calls.now (length c.args.calls.now) c.loop-call.call-index c.call-item.result refl c.loop-call-test.true c.call-item.is in
    let i = (member_in c.call-item.result at c.loop-call.invariant.merging c.requires.within).0 in
    omega (arith, i)

pub add_load-requires-clause-place : goal.add_load-requires-clause-place
add_load-requires-clause-place c =
    let at = slice_get_read c.args.calls.now (length c.args.calls.now) c.loop-call.call-index c.call-item.result refl c.loop-call-test.true c.call-item.is in
    in_table c.call-item.result at c.loop-call.invariant.merging c.requires.within

pub add_load-requires-clause-fits : goal.add_load-requires-clause-fits
add_load-requires-clause-fits c =
    let at = slice_get_read c.args.calls.now (length c.args.calls.now) c.loop-call.call-index c.call-item.result refl c.loop-call-test.true c.call-item.is in
    let F = c.requires.fit.0 in (
      member_widths F c.args.first,
      c.loop-call.invariant.merging.fits F c.requires.fit.1,
      subst (λ (xs : List Sig). AreSources c.loop-call.net xs (member_widths F c.args.first (c.call-item.result.member - c.args.first))) (sym c.deref.ensures.value)
          (call_sized c.call-item.result at c.loop-call.invariant.merging c.requires.within F c.requires.fit.1),
    )

pub add_load-requires-clause-bit : goal.add_load-requires-clause-bit
add_load-requires-clause-bit c =
    let at = slice_get_read c.args.calls.now (length c.args.calls.now) c.loop-call.call-index c.call-item.result refl c.loop-call-test.true c.call-item.is in
    call_bit c.call-item.result at c.loop-call.invariant.merging c.requires.within c.requires.fit.0 c.requires.fit.1

pub add_load-requires-clause-room : goal.add_load-requires-clause-room
add_load-requires-clause-room c =
    let at = slice_get_read c.args.calls.now (length c.args.calls.now) c.loop-call.call-index c.call-item.result refl c.loop-call-test.true c.call-item.is in
    let d = ap (λ (xs : List Sig). length xs) c.deref.ensures.value in
    let r = call_room c.call-item.result at c.loop-call.invariant.merging c.requires.within c.requires.room.room in
    record { tidy = c.loop-call.invariant.merging.built.tidy; room = omega (arith, d, r) }

pub loop-call-preserved : goal.loop-call-preserved
loop-call-preserved c =
    let at = slice_get_read c.args.calls.now (length c.args.calls.now) c.loop-call.call-index c.call-item.result refl c.loop-call-test.true c.call-item.is in
    let e = c.call-item.result in
    let d = c.deref.ensures.value in
    let a = c.in_ok-add_load.ensures in
    record {
      merging = merging_step e at c.loop-call.invariant.merging c.requires.within c.add_load.new.loads.items c.requires.fit.0 c.requires.fit.1
          (subst (λ (xs : List Sig). Builds c.loop-call.net c.add_load.new.net (1 + length xs)) d a.built) a.count
          (λ ws x y. a.fits ws x (subst (λ (xs : List Sig). AreSources c.loop-call.net xs (ws (e.member - c.args.first))) (sym d) y))
          (λ v w i. a.shows v w i ∙ ap (λ (xs : List Sig). option_or (taken_from v c.loop-call.loads.items i) (gate ((i == (e.member - c.args.first)) && on v e.taken) (Some (words v xs)))) d);
    }

pub returns-clause-built : goal.returns-clause-built
returns-clause-built c = let end = c.loop-call-test.false in
    (merging_end c.args.first c.args.members c.args.net.now c.loop-call.net c.args.calls.now c.loop-call.call-index c.loop-call.loads.items
    (omega (arith, end)) c.loop-call.invariant.merging).0

pub returns-clause-merged : goal.returns-clause-merged
returns-clause-merged c = let end = c.loop-call-test.false in
    (merging_end c.args.first c.args.members c.args.net.now c.loop-call.net c.args.calls.now c.loop-call.call-index c.loop-call.loads.items
    (omega (arith, end)) c.loop-call.invariant.merging).1

pub returns-in_err-add_load-clause-grows : goal.returns-in_err-add_load-clause-grows
returns-in_err-add_load-clause-grows c = grows_on c.loop-call.invariant.merging.built.grows c.add_load.ensures.built.grows
