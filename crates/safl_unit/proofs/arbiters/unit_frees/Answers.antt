use Rattle.safl_unit.proofs.Common.{AreBits, Sig, builds_on, builds_within, frees, on, row_at, row_kept, slice_get_read, summed}
use Rattle.std.proofs.Common.{◌+◌, ◌*◌, List, not, length, refl, sym, ap, subst, ◌∙◌, arith}
use Rattle.safl_word.proofs.Lists.{summed_more}
use Rattle.safl_unit.proofs.equations.Keeping.{pins_kept}
use Rattle.safl_unit.proofs.equations.Arbiting.{row_there, tally_room, rows_more}
use Rattle.safl_unit.proofs.arbiters.unit_frees.Goals as goal

pub unit_row-requires-clause-wants : goal.unit_row-requires-clause-wants
unit_row-requires-clause-wants c =
    let f = c.loop-f.f in
    let rows = c.args.rows.now.items in
    let l = c.loop-f-test.true in
    let k = c.function_count-functions.ensures.count in
    let n = c.requires.count in
    let e = row_there rows f c.index.result.now c.deref.result.now (omega (arith, l, k, n)) c.index.ensures c.deref.ensures.value in
    subst (AreBits c.loop-f.net) (sym e) (row_kept c.loop-f.invariant.built (row_at rows f) (c.requires.rows f))

pub unit_row-requires-clause-run : goal.unit_row-requires-clause-run
unit_row-requires-clause-run c =
    let f = c.loop-f.f in
    let us = c.args.pins.now.bank.units.items in
    let l = c.loop-f-test.true in
    let k = c.function_count-functions.ensures.count in
    let n = c.requires.pins.bank.units_length in
    let at = slice_get_read us (length us) f c.index-unit.result.now refl (omega (arith, l, k, n)) c.index-unit.ensures in
    ((pins_kept c.loop-f.invariant.built c.requires.pins).bank.units f c.index-unit.result.now at).run

pub unit_row-requires-clause-room : goal.unit_row-requires-clause-room
unit_row-requires-clause-room c =
    let f = c.loop-f.f in
    let rows = c.args.rows.now.items in
    let l = c.loop-f-test.true in
    let k = c.function_count-functions.ensures.count in
    let n = c.requires.count in
    let e = row_there rows f c.index.result.now c.deref.result.now (omega (arith, l, k, n)) c.index.ensures c.deref.ensures.value in
    let d = ap (λ (xs : List Sig). length xs) e in
    let t = tally_room (λ u. length (row_at rows u)) f c.args.p.now.program.functions (omega (arith, l, k)) in
    let b = c.loop-f.invariant.built.count in
    let r = c.requires.room.room in
    record { tidy = c.loop-f.invariant.built.tidy; room = omega (arith, d, t, b, r) }

pub loop-f-preserved : goal.loop-f-preserved
loop-f-preserved c =
    let f = c.loop-f.f in
    let rows = c.args.rows.now.items in
    let us = c.args.pins.now.bank.units.items in
    let l = c.loop-f-test.true in
    let k = c.function_count-functions.ensures.count in
    let n = c.requires.count in
    let m = c.requires.pins.bank.units_length in
    let e = row_there rows f c.index.result.now c.deref.result.now (omega (arith, l, k, n)) c.index.ensures c.deref.ensures.value in
    let d = ap (λ (xs : List Sig). length xs) e in
    let t = summed_more (λ u. length (row_at rows u)) f in
    let at = slice_get_read us (length us) f c.index-unit.result.now refl (omega (arith, l, k, m)) c.index-unit.ensures in
    record {
      built = builds_within (3 * summed (λ u. length (row_at rows u)) (f + 1)) (builds_on c.loop-f.invariant.built c.in_ok-row.ensures.built) (omega (arith, d, t));
      so_far = rows_more c.args.p.now.program c.args.p.now.choice c.loop-f.net c.unit_row.new.net (3 * length c.deref.result.now) us
          rows c.loop-f.out.items c.push.new.self.items f c.in_ok-row.row c.index-unit.result.now
          c.in_ok-row.ensures.built c.loop-f.invariant.so_far c.in_ok-push.ensures.items c.in_ok-row.ensures.fits at
          (λ a. c.in_ok-row.ensures.long (c.arbiter-arbiter.ensures.entry ∙ a) ∙ d)
          (λ v w a. c.in_ok-row.ensures.value v w (c.arbiter-arbiter.ensures.entry ∙ a) ∙ ap (frees v (not (on v c.index-unit.result.now.run))) e);
    }
