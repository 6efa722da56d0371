use Rattle.safl_vread.proofs.Common.{length-map, shown_declaration, shown_declarations, slice_get-get_or}
use Rattle.std.proofs.Common.{◌≡◌, ℕ, List, length, get_or, sym, subst, arith}
use Rattle.safl_verilog.specs.Files.{Declaration}
use Rattle.safl_vread.proofs.StatementsDrive.{distinct_names}
use Rattle.safl_vread.proofs.Orders.{place_inside}
use Rattle.safl_vread.proofs.Numberings.{SoNumbered, order_apart, goes_on_numbers, ends_numbers}
use Rattle.safl_vread.proofs.places.numbers_of.Goals as goal

pub index_mut-requires : goal.index_mut-requires
index_mut-requires c =
    omega (arith, place_inside (shown_declaration c.args.scope.now.text.now) c.args.scope.now.declarations.now c.args.order.now c.requires.order c.loop-i.i c.loop-i-test.true, c.loop-i.invariant.full)

pub loop-i-preserved : goal.loop-i-preserved
loop-i-preserved c =
    let ds : List Declaration = shown_declarations c.args.scope.now.text.now c.args.scope.now.declarations.now in
    goes_on_numbers c.args.order.now c.loop-i.numbers.items (length c.args.scope.now.declarations.now) c.loop-i.i
    (get_or c.args.order.now c.loop-i.i 0) (order_apart ds c.args.order.now (distinct_names ds c.args.scope.now.apart) c.requires.order)
    (slice_get-get_or c.args.order.now c.loop-i.i 0 c.loop-i-test.true) c.loop-i-test.true
    (place_inside (shown_declaration c.args.scope.now.text.now) c.args.scope.now.declarations.now c.args.order.now c.requires.order c.loop-i.i
    c.loop-i-test.true) c.loop-i.invariant

pub returns : goal.returns
returns c =
    let ds : List Declaration = shown_declarations c.args.scope.now.text.now c.args.scope.now.declarations.now in
    let long : length c.args.scope.now.declarations.now ≡ length ds = sym (length-map c.args.scope.now.declarations.now (shown_declaration c.args.scope.now.text.now)) in
    ends_numbers ds c.args.order.now c.loop-i.numbers.items c.loop-i.i (distinct_names ds c.args.scope.now.apart) c.requires.order c.loop-i-test.false
    (subst (λ (n : ℕ). SoNumbered c.args.order.now c.loop-i.numbers.items n c.loop-i.i) long c.loop-i.invariant)
