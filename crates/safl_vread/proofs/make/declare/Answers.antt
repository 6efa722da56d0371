use Rattle.safl_vread.proofs.Common.{Netlist, opened, shown_declaration, shown_declarations, signal_at, signals_at, slice_get-get_or}
use Rattle.std.proofs.Common.{rules, ℕ, ◌<◌, List, [], length, get_or, map, None, sym, ap, ◌∙◌, arith}
use Rattle.std.proofs.lemmas.List.{length-map, take_all, get_or_default}
use Rattle.safl_verilog.specs.declared.token.Sort.TheVariants as sorts
use Rattle.safl_verilog.specs.Files.{Declaration}
use Rattle.safl_vparse.specs.declared.file.Declaration.{Declaration as Parsed}
use Rattle.safl_vread.proofs.StatementsDrive.{distinct_names}
use Rattle.safl_vread.proofs.Orders.{place_inside}
use Rattle.safl_vread.proofs.Stages.{declared_there, declared_long, fits_width, width_there, declares_next}
use Rattle.safl_vread.proofs.NewNames.{good_signal, signal_free}
use Rattle.safl_vread.proofs.make.declare.Goals as goal

-- what is read where nothing is
abbrev nowhere : Parsed
nowhere = record { sort = sorts.Input; range = None; name = record { start = 0; stop = 0 } }

pub bounds-scope-place : goal.bounds-scope-place
bounds-scope-place c = place_inside (shown_declaration c.args.scope.now.text.now) c.args.scope.now.declarations.now c.args.order.now c.requires.order c.loop-place.place-index c.loop-place-test.true

pub offset_bounds-scope-place : goal.offset_bounds-scope-place
offset_bounds-scope-place c =
    let l : get_or c.args.order.now c.loop-place.place-index 0 < length c.args.scope.now.declarations.now = place_inside
    (shown_declaration c.args.scope.now.text.now) c.args.scope.now.declarations.now c.args.order.now c.requires.order c.loop-place.place-index
    c.loop-place-test.true in
    search (rules, l)

pub width_at-width-requires : goal.width_at-width-requires
width_at-width-requires c = place_inside (shown_declaration c.args.scope.now.text.now) c.args.scope.now.declarations.now c.args.order.now
    c.requires.order c.loop-place.place-index c.loop-place-test.true

pub bounds-drivers-place : goal.bounds-drivers-place
bounds-drivers-place c = omega (
  arith,
  place_inside (shown_declaration c.args.scope.now.text.now) c.args.scope.now.declarations.now c.args.order.now
      c.requires.order c.loop-place.place-index c.loop-place-test.true,
  c.requires.full,
)

pub offset_bounds-drivers-place : goal.offset_bounds-drivers-place
offset_bounds-drivers-place c =
    let l : get_or c.args.order.now c.loop-place.place-index 0 < length c.args.drivers.now = omega (
      arith,
      place_inside (shown_declaration c.args.scope.now.text.now) c.args.scope.now.declarations.now c.args.order.now c.requires.order
          c.loop-place.place-index c.loop-place-test.true,
      c.requires.full,
    ) in
    search (rules, l)

pub declare_one-requires-clause-width : goal.declare_one-requires-clause-width
declare_one-requires-clause-width c =
    let l = place_inside (shown_declaration c.args.scope.now.text.now) c.args.scope.now.declarations.now c.args.order.now c.requires.order c.loop-place.place-index c.loop-place-test.true in
    c.width_at-width.ensures ∙ width_there (shown_declaration c.args.scope.now.text.now) c.args.scope.now.declarations.now c.args.drivers.now
    (get_or c.args.order.now c.loop-place.place-index 0) _ c.index-drivers-place.result c.requires.full l c.index-drivers-place.is
    c.args.scope.now.widths.items c.args.scope.now.measured

pub declare_one-requires-clause-fits : goal.declare_one-requires-clause-fits
declare_one-requires-clause-fits c =
    let l = place_inside (shown_declaration c.args.scope.now.text.now) c.args.scope.now.declarations.now c.args.order.now c.requires.order c.loop-place.place-index c.loop-place-test.true in
    fits_width (shown_declaration c.args.scope.now.text.now) c.args.scope.now.declarations.now c.args.drivers.now
    (get_or c.args.order.now c.loop-place.place-index 0) _ c.index-drivers-place.result c.requires.full l c.index-drivers-place.is
    c.args.scope.now.widths.items c.width_at-width.result c.args.scope.now.measured c.width_at-width.ensures c.requires.fit

pub declare_one-requires-clause-room : goal.declare_one-requires-clause-room
declare_one-requires-clause-room c =
    let F = signal_at (shown_declarations c.args.scope.now.text.now c.args.scope.now.declarations.now) c.args.drivers.now [] in
    omega (
      arith,
      ap (λ (n : Netlist). length n.signals) (c.loop-place.invariant []),
      declared_long F c.args.order.now c.loop-place.place-index
          c.loop-place-test.true,
      c.loop-place-test.true,
      c.requires.few,
    )

pub declare_one-requires-clause-good : goal.declare_one-requires-clause-good
declare_one-requires-clause-good c =
    let ds : List Declaration = shown_declarations c.args.scope.now.text.now c.args.scope.now.declarations.now in
    let l = place_inside (shown_declaration c.args.scope.now.text.now) c.args.scope.now.declarations.now c.args.order.now c.requires.order c.loop-place.place-index c.loop-place-test.true in
    let there = declared_there (shown_declaration c.args.scope.now.text.now) c.args.scope.now.declarations.now c.args.drivers.now
    (get_or c.args.order.now c.loop-place.place-index 0) nowhere c.index-drivers-place.result c.requires.full l c.index-drivers-place.is in
    good_signal ds (distinct_names ds c.args.scope.now.apart) c.args.order.now c.requires.order c.requires.names c.loop-place.place-index _ _
    (slice_get-get_or c.args.order.now c.loop-place.place-index 0 c.loop-place-test.true) there

pub declare_one-requires-clause-new : goal.declare_one-requires-clause-new
declare_one-requires-clause-new c =
    let ds : List Declaration = shown_declarations c.args.scope.now.text.now c.args.scope.now.declarations.now in
    let l = place_inside (shown_declaration c.args.scope.now.text.now) c.args.scope.now.declarations.now c.args.order.now c.requires.order c.loop-place.place-index c.loop-place-test.true in
    let there = declared_there (shown_declaration c.args.scope.now.text.now) c.args.scope.now.declarations.now c.args.drivers.now
    (get_or c.args.order.now c.loop-place.place-index 0) nowhere c.index-drivers-place.result c.requires.full l c.index-drivers-place.is in
    signal_free ds (distinct_names ds c.args.scope.now.apart) c.args.order.now c.requires.order c.args.drivers.now []
    (c.requires.full ∙ sym (length-map c.args.scope.now.declarations.now (shown_declaration c.args.scope.now.text.now)))
    c.loop-place.net c.loop-place.place-index _ _ (c.loop-place.invariant []) (slice_get-get_or c.args.order.now c.loop-place.place-index 0 c.loop-place-test.true) there

pub loop-place-preserved : goal.loop-place-preserved
loop-place-preserved c = λ ns.
    let l = place_inside (shown_declaration c.args.scope.now.text.now) c.args.scope.now.declarations.now c.args.order.now c.requires.order c.loop-place.place-index c.loop-place-test.true in
    let p : ℕ = get_or c.args.order.now c.loop-place.place-index 0 in
    declares_next (shown_declaration c.args.scope.now.text.now) c.args.scope.now.declarations.now c.args.drivers.now p _ c.index-drivers-place.result
    c.requires.full l c.index-drivers-place.is ns c.args.order.now c.loop-place.place-index c.loop-place.net c.declare_one.new.net c.loop-place-test.true
    (get_or_default c.args.order.now c.loop-place.place-index 0 p c.loop-place-test.true) (c.loop-place.invariant ns) (c.in_ok-declare_one.ensures ns)

pub returns : goal.returns
returns c = λ ns.
    c.loop-place.invariant ns
    ∙ ap (λ (k : List ℕ). record {
      signals = map opened (signals_at (shown_declarations c.args.scope.now.text.now c.args.scope.now.declarations.now)
          c.args.drivers.now ns k);
      outputs = [];
    }) (take_all c.loop-place.place-index c.args.order.now c.loop-place-test.false)
