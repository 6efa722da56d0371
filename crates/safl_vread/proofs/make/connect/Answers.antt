use Rattle.safl_vread.proofs.Common.{Netlist, Signal, length-map, partly, signal_at, signals_at, slice_get-get_or}
use Rattle.std.proofs.Common.{rules, ℕ, ◌<◌, List, length, get_or, None, sym, ap, ◌∙◌, arith, add-one}
use Rattle.safl_verilog.specs.Files.{Declaration}
use Rattle.safl_verilog.specs.declared.token.Sort.TheVariants as sorts
use Rattle.safl_vparse.specs.declared.file.Declaration.{Declaration as Parsed}
use Rattle.safl_vparse.specs.Shown.{shown_declaration, shown_declarations}
use Rattle.safl_vread.proofs.Orders.{place_inside, order_long}
use Rattle.safl_vread.proofs.Stages.{declared_there, driver_there, some_width, opens_there, sets_next, partly_long, partly_all}
use Rattle.safl_vread.proofs.Suiting.{suits_in}
use Rattle.safl_vread.proofs.make.connect.Goals as goal

pub bounds-scope-place : goal.bounds-scope-place
bounds-scope-place c = place_inside (shown_declaration c.args.scope.now.text.now) c.args.scope.now.declarations.now c.args.order.now c.requires.order c.loop-i.i c.loop-i-test.true

pub offset_bounds-scope-place : goal.offset_bounds-scope-place
offset_bounds-scope-place c =
    let l : get_or c.args.order.now c.loop-i.i 0 < length c.args.scope.now.declarations.now = place_inside
    (shown_declaration c.args.scope.now.text.now) c.args.scope.now.declarations.now c.args.order.now c.requires.order c.loop-i.i c.loop-i-test.true in
    search (rules, l)

pub bounds-drivers-place : goal.bounds-drivers-place
bounds-drivers-place c = omega (
  arith,
  place_inside (shown_declaration c.args.scope.now.text.now) c.args.scope.now.declarations.now c.args.order.now
      c.requires.order c.loop-i.i c.loop-i-test.true,
  c.requires.full,
)

pub offset_bounds-drivers-place : goal.offset_bounds-drivers-place
offset_bounds-drivers-place c =
    let l : get_or c.args.order.now c.loop-i.i 0 < length c.args.drivers.now = omega (
      arith,
      place_inside (shown_declaration c.args.scope.now.text.now) c.args.scope.now.declarations.now c.args.order.now c.requires.order
          c.loop-i.i c.loop-i-test.true,
      c.requires.full,
    ) in
    search (rules, l)

pub connect_one-requires-clause-fits : goal.connect_one-requires-clause-fits
connect_one-requires-clause-fits c =
    let l = place_inside (shown_declaration c.args.scope.now.text.now) c.args.scope.now.declarations.now c.args.order.now c.requires.order c.loop-i.i c.loop-i-test.true in
    some_width (shown_declaration c.args.scope.now.text.now) c.args.scope.now.declarations.now c.args.drivers.now
    (get_or c.args.order.now c.loop-i.i 0) _ c.index-drivers-place.result c.requires.full l c.index-drivers-place.is c.args.numbers.now
    (c.requires.numbers.full ∙ length-map c.args.scope.now.declarations.now (shown_declaration c.args.scope.now.text.now)) c.requires.fit

pub connect_one-requires-clause-suits : goal.connect_one-requires-clause-suits
connect_one-requires-clause-suits c =
    let ds : List Declaration = shown_declarations c.args.scope.now.text.now c.args.scope.now.declarations.now in
    let l = place_inside (shown_declaration c.args.scope.now.text.now) c.args.scope.now.declarations.now c.args.order.now c.requires.order c.loop-i.i c.loop-i-test.true in
    let p : ℕ = get_or c.args.order.now c.loop-i.i 0 in
    let d : Parsed = get_or c.args.scope.now.declarations.now p (record { sort = sorts.Input; range = None; name = record { start = 0; stop = 0 } }) in
    suits_in ds c.args.drivers.now c.args.order.now c.args.numbers.now c.loop-i.i c.loop-i.net c.args.net.now.outputs
    (c.requires.full ∙ sym (length-map c.args.scope.now.declarations.now (shown_declaration c.args.scope.now.text.now))) c.loop-i.invariant
    c.requires.numbers c.requires.suit p (shown_declaration c.args.scope.now.text.now d) c.index-drivers-place.result (slice_get-get_or c.args.order.now c.loop-i.i 0 c.loop-i-test.true)
    (declared_there (shown_declaration c.args.scope.now.text.now) c.args.scope.now.declarations.now c.args.drivers.now p _ c.index-drivers-place.result c.requires.full l c.index-drivers-place.is)
    (driver_there (shown_declaration c.args.scope.now.text.now) c.args.scope.now.declarations.now c.args.drivers.now p d c.index-drivers-place.result c.requires.full l c.index-drivers-place.is)

pub connect_one-requires-clause-known : goal.connect_one-requires-clause-known
connect_one-requires-clause-known c = λ p.
    let ds : List Declaration = shown_declarations c.args.scope.now.text.now c.args.scope.now.declarations.now in
    let gs : List Signal = signals_at ds c.args.drivers.now c.args.numbers.now c.args.order.now in
    omega (
      arith,
      c.requires.numbers.known p,
      order_long ds c.args.order.now c.requires.order,
      partly_long c.loop-i.i gs,
      length-map c.args.order.now
          (signal_at ds c.args.drivers.now c.args.numbers.now),
      ap (λ (n : Netlist). length n.signals) c.loop-i.invariant,
    )

pub connect_one-requires-clause-there : goal.connect_one-requires-clause-there
connect_one-requires-clause-there c =
    let ds : List Declaration = shown_declarations c.args.scope.now.text.now c.args.scope.now.declarations.now in
    let gs : List Signal = signals_at ds c.args.drivers.now c.args.numbers.now c.args.order.now in
    omega (
      arith,
      c.loop-i-test.true,
      partly_long c.loop-i.i gs,
      length-map c.args.order.now (signal_at ds c.args.drivers.now c.args.numbers.now),
      ap
          (λ (n : Netlist). length n.signals) c.loop-i.invariant,
    )

pub connect_one-requires-clause-open : goal.connect_one-requires-clause-open
connect_one-requires-clause-open c =
    let l = place_inside (shown_declaration c.args.scope.now.text.now) c.args.scope.now.declarations.now c.args.order.now c.requires.order c.loop-i.i c.loop-i-test.true in
    opens_there (shown_declaration c.args.scope.now.text.now) c.args.scope.now.declarations.now c.args.drivers.now
    (get_or c.args.order.now c.loop-i.i 0) _ c.index-drivers-place.result c.requires.full l c.index-drivers-place.is
    c.args.numbers.now c.args.order.now c.loop-i.i c.loop-i.net c.args.net.now.outputs (slice_get-get_or c.args.order.now c.loop-i.i 0 c.loop-i-test.true) c.loop-i.invariant

pub loop-i-preserved : goal.loop-i-preserved
loop-i-preserved c =
    let ds : List Declaration = shown_declarations c.args.scope.now.text.now c.args.scope.now.declarations.now in
    let l = place_inside (shown_declaration c.args.scope.now.text.now) c.args.scope.now.declarations.now c.args.order.now c.requires.order c.loop-i.i c.loop-i-test.true in
    sets_next (shown_declaration c.args.scope.now.text.now) c.args.scope.now.declarations.now c.args.drivers.now
    (get_or c.args.order.now c.loop-i.i 0) _ c.index-drivers-place.result c.requires.full l c.index-drivers-place.is
    c.args.numbers.now c.args.order.now c.loop-i.i c.loop-i.net c.connect_one.new.net c.args.net.now.outputs
    (slice_get-get_or c.args.order.now c.loop-i.i 0 c.loop-i-test.true) c.loop-i.invariant c.connect_one.ensures
    ∙ ap (λ (n : ℕ). record { signals = partly n (signals_at ds c.args.drivers.now c.args.numbers.now c.args.order.now); outputs = c.args.net.now.outputs }) (sym (add-one c.loop-i.i))

pub returns : goal.returns
returns c =
    let ds : List Declaration = shown_declarations c.args.scope.now.text.now c.args.scope.now.declarations.now in
    let gs : List Signal = signals_at ds c.args.drivers.now c.args.numbers.now c.args.order.now in
    c.loop-i.invariant ∙ ap (λ (k : List Signal). record { signals = k; outputs = c.args.net.now.outputs })
    (partly_all c.loop-i.i gs (omega (arith, c.loop-i-test.false, length-map c.args.order.now (signal_at ds c.args.drivers.now c.args.numbers.now))))
