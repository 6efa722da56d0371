use Rattle.safl_unit.proofs.Common.{Val, builds_on, builds_same, builds_within, maybe_bit_kept, on_in, taken_from}
use Rattle.std.proofs.Common.{◌≡◌, ℕ, ◌==◌, ◌&&◌, ◌||◌, is_some, refl, subst, arith}
use Rattle.safl_unit.specs.Edges.{one_below, ShowsBits}
use Rattle.safl_unit.proofs.equations.Chains.{bits_of_loads, start_bits, more_bits, loop_there, loop_fits, loop_shown}
use Rattle.safl_unit.proofs.arrivals.function_entries.Goals as goal

pub loop-h-init : goal.loop-h-init
loop-h-init c =
    let C = c.args.p.now.program in
    let n = c.args.net.now in
    let xs = c.args.loads.now in
    record {
      built = builds_same n n c.requires.room.tidy refl 0;
      table = start_bits n c.in_ok-all.all.items C.functions (λ (v : Val) (i : ℕ). is_some (taken_from v xs i))
          (λ (v : Val) (i h : ℕ). (i == h) && is_some (taken_from v c.args.outcomes.now.loops.items h))
          (bits_of_loads n xs c.in_ok-all.all.items C.functions c.requires.loads.0 c.requires.count c.requires.loads.1 c.in_ok-all.ensures.bits);
    }

pub add_some-requires-clause-place : goal.add_some-requires-clause-place
add_some-requires-clause-place c =
    let e = c.loop-h.invariant.table.entries in
    let l = c.loop-h-test.true in
    let k = c.function_count-functions.ensures.count in
    omega (arith, e, l, k)

pub add_some-requires-clause-fits : goal.add_some-requires-clause-fits
add_some-requires-clause-fits c = c.loop-h.invariant.table.fits

pub add_some-requires-clause-bit : goal.add_some-requires-clause-bit
add_some-requires-clause-bit c =
    let C = c.args.p.now.program in
    let l = c.loop-h-test.true in
    let k = c.function_count-functions.ensures.count in
    let g = loop_there C c.args.net.now c.args.outcomes.now c.loop-h.h c.index.result.now c.requires.outcomes (omega (arith, l, k)) c.index.ensures in
    maybe_bit_kept c.loop-h.invariant.built c.load_bit-bit.result
    (loop_fits C c.args.net.now c.args.outcomes.now c.loop-h.h c.index.result.now c.load_bit-bit.result c.requires.outcomes g c.load_bit-bit.ensures)

pub add_some-requires-clause-room : goal.add_some-requires-clause-room
add_some-requires-clause-room c =
    let l = c.loop-h-test.true in
    let k = c.function_count-functions.ensures.count in
    let b = c.loop-h.invariant.built.count in
    let r = c.requires.room.room in
    record { tidy = c.loop-h.invariant.built.tidy; room = omega (arith, b, r, l, k) }

pub loop-h-preserved : goal.loop-h-preserved
loop-h-preserved c =
    let C = c.args.p.now.program in
    let h = c.loop-h.h in
    let l = c.loop-h-test.true in
    let k = c.function_count-functions.ensures.count in
    let o = c.args.outcomes.now in
    let g = loop_there C c.args.net.now o h c.index.result.now c.requires.outcomes (omega (arith, l, k)) c.index.ensures in
    record {
      built = builds_on c.loop-h.invariant.built c.add_some.ensures.built;
      table = more_bits c.loop-h.net c.add_some.new.net c.loop-h.all.items c.add_some.new.bits.items C.functions h 1 h
          (λ (v : Val). on_in v c.load_bit-bit.result) (λ (v : Val) (i : ℕ). is_some (taken_from v c.args.loads.now i))
          (λ (v : Val) (i j : ℕ). (i == j) && is_some (taken_from v o.loops.items j))
          c.add_some.ensures.built c.loop-h.invariant.table c.add_some.ensures.count c.in_ok-add_some.ensures.fits c.in_ok-add_some.ensures.shows
          (λ v i w. loop_shown v o h i h h c.index.result.now c.load_bit-bit.result g c.load_bit-bit.ensures refl);
    }

pub returns-clause-tidy : goal.returns-clause-tidy
returns-clause-tidy c = c.loop-h.invariant.built.tidy

pub returns-clause-built : goal.returns-clause-built
returns-clause-built c =
    let b = c.loop-h.auto.h-end in
    let k = c.function_count-functions.ensures.count in
    builds_within c.args.p.now.program.functions c.loop-h.invariant.built (omega (arith, b, k))

pub returns-clause-done : goal.returns-clause-done
returns-clause-done c =
    let C = c.args.p.now.program in
    let l = c.loop-h-test.false in
    let b = c.loop-h.auto.h-end in
    let k = c.function_count-functions.ensures.count in
    let e : c.loop-h.h ≡ C.functions = omega (arith, l, b, k) in
    subst (λ (m : ℕ). ShowsBits c.loop-h.net c.loop-h.all.items C.functions
    (λ (v : Val) (i : ℕ). is_some (taken_from v c.args.loads.now i) || one_below
    (λ (h : ℕ). (i == h) && is_some (taken_from v c.args.outcomes.now.loops.items h)) m)) e
    c.loop-h.invariant.table
