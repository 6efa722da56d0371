use Rattle.safl_unit.proofs.Common.{FitsIn, IsBitIn, Load, Sig, UnitPins, UnitsNext, builds_on, builds_same, builds_within, entry_in}
use Rattle.safl_unit.proofs.Common.{maybe_bit_kept, maybe_load_kept, slice_get-get_or, slice_get_read}
use Rattle.std.proofs.Common.{◌≡◌, ℕ, ◌+◌, ◌*◌, ◌⊎◌, List, [], ◌∷◌, length, Option, None, slice_get, slice_index_or, inl, inr, ⊎_elim, refl, sym, ap, subst, ◌∙◌, arith}
use Rattle.safl_unit.proofs.equations.Keeping.{unit_kept}
use Rattle.safl_unit.proofs.equations.Stepping.{no_units, more_units}
use Rattle.safl_unit.proofs.edge.next_units.Goals as goal

pub loop-f-init : goal.loop-f-init
loop-f-init c =
    let n = c.args.net.now in
    record {
      built = builds_same n n c.requires.room.tidy refl 0;
      table = no_units c.args.p.now.program n c.args.pins.now.bank.units.items c.args.ends.now c.args.starts.now c.new-all.result.items c.new-all.ensures.items;
    }

pub unit_after-requires-clause-fits : goal.unit_after-requires-clause-fits
unit_after-requires-clause-fits c =
    let C = c.args.p.now.program in
    let u = c.unit_of-unit.result in
    let w = c.unit_of-unit.ensures.within in
    let l = c.loop-f-test.true in
    let k = c.function_count-functions.ensures.count in
    let es = c.args.ends.now in
    let us = c.args.pins.now.bank.units.items in
    let m = c.requires.ends.count in
    let j = c.requires.pins.bank.units_length in
    let e = slice_get_read es (length es) u c.index-ends-unit.result refl (omega (arith, w, l, k, m)) c.index-ends-unit.is in
    let x = slice_get_read us (length us) u c.index-now.result.now refl (omega (arith, w, l, k, j)) c.index-now.ensures in (
      C.result u,
      maybe_load_kept c.loop-f.invariant.built c.index-ends-unit.result (C.result u ∷ [])
          (subst (λ (o : Option (Option Load)). FitsIn c.args.net.now (entry_in o) (C.result u ∷ [])) e (c.requires.ends.each u)),
      unit_kept c.loop-f.invariant.built (c.requires.pins.bank.units u c.index-now.result.now x),
    )

pub unit_after-requires-clause-start : goal.unit_after-requires-clause-start
unit_after-requires-clause-start c =
    let u = c.unit_of-unit.result in
    let w = c.unit_of-unit.ensures.within in
    let l = c.loop-f-test.true in
    let k = c.function_count-functions.ensures.count in
    let ss = c.args.starts.now in
    let m = c.requires.starts.count in
    let s = slice_get-get_or ss u None (omega (arith, w, l, k, m)) in
    maybe_bit_kept c.loop-f.invariant.built (slice_index_or ss u None) (subst (λ (o : Option (Option Sig)). IsBitIn c.args.net.now (entry_in o)) s (c.requires.starts.each u))

pub unit_after-requires-clause-room : goal.unit_after-requires-clause-room
unit_after-requires-clause-room c =
    let l = c.loop-f-test.true in
    let k = c.function_count-functions.ensures.count in
    let b = c.loop-f.invariant.built.count in
    let r = c.requires.room.room in
    record { tidy = c.loop-f.invariant.built.tidy; room = omega (arith, b, r, l, k) }

pub loop-f-preserved : goal.loop-f-preserved
loop-f-preserved c =
    let C = c.args.p.now.program in
    let f = c.loop-f.f in
    let u = c.unit_of-unit.result in
    let w = c.unit_of-unit.ensures.within in
    let l = c.loop-f-test.true in
    let k = c.function_count-functions.ensures.count in
    let es = c.args.ends.now in
    let ss = c.args.starts.now in
    let us = c.args.pins.now.bank.units.items in
    let m = c.requires.ends.count in
    let n = c.requires.starts.count in
    let j = c.requires.pins.bank.units_length in
    let e = slice_get_read es (length es) u c.index-ends-unit.result refl (omega (arith, w, l, k, m)) c.index-ends-unit.is in
    let s = slice_get-get_or ss u None (omega (arith, w, l, k, n)) in
    let x = slice_get_read us (length us) u c.index-now.result.now refl (omega (arith, w, l, k, j)) c.index-now.ensures in
    let first = c.function_count-functions.ensures.checked.formed.first f (omega (arith, l, k)) in
    let of = c.unit_of-unit.ensures.number in
    let built = c.in_ok-next.ensures.built in
    let done = c.in_ok-next.ensures.done (C.result u)
    (maybe_load_kept c.loop-f.invariant.built c.index-ends-unit.result (C.result u ∷ [])
    (subst (λ (o : Option (Option Load)). FitsIn c.args.net.now (entry_in o) (C.result u ∷ [])) e (c.requires.ends.each u)))
    (unit_kept c.loop-f.invariant.built (c.requires.pins.bank.units u c.index-now.result.now x)) in
    record {
      built = builds_within (5 * (f + 1)) (builds_on c.loop-f.invariant.built built) (omega arith);
      table = more_units C c.loop-f.net c.unit_after.new.net us es ss c.loop-f.all.items c.push.new.self.items f u c.index-ends-unit.result
          (slice_index_or ss u None) c.index-now.result.now c.in_ok-next.next
          c.loop-f.invariant.table built of c.unit_of-unit.ensures.width (ap C.unit of ∙ first.1 ∙ sym of) e s x
          (⊎_elim (λ q. inl (ap (λ (xs : List UnitPins). slice_get xs u) (sym c.deref.ensures.value) ∙ q)) (λ q. inr q) done) c.in_ok-push.ensures.items;
    }

pub returns-clause-tidy : goal.returns-clause-tidy
returns-clause-tidy c = c.loop-f.invariant.built.tidy

pub returns-clause-built : goal.returns-clause-built
returns-clause-built c =
    let b = c.loop-f.auto.f-end in
    let k = c.function_count-functions.ensures.count in
    builds_within (5 * c.args.p.now.program.functions) c.loop-f.invariant.built (omega (arith, b, k))

pub returns-clause-done : goal.returns-clause-done
returns-clause-done c =
    let C = c.args.p.now.program in
    let l = c.loop-f-test.false in
    let b = c.loop-f.auto.f-end in
    let k = c.function_count-functions.ensures.count in
    let e : c.loop-f.f ≡ C.functions = omega (arith, l, b, k) in
    subst (λ (m : ℕ). UnitsNext C c.loop-f.net c.args.pins.now.bank.units.items c.args.ends.now c.args.starts.now c.loop-f.all.items m) e c.loop-f.invariant.table
