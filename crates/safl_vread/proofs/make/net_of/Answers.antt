use Rattle.safl_vread.proofs.Common.{AreNumbers, IsOrder, Netlist, length-map, opened, shown_declaration, shown_declarations, signals_at}
use Rattle.std.proofs.Common.{ℕ, List, [], length, map, sym, ap, subst, ◌∙◌, arith}
use Rattle.safl_net.specs.Names.{named_signal}
use Rattle.safl_verilog.specs.Files.{Declaration}
use Rattle.safl_vread.proofs.StatementsDrive.{distinct_names}
use Rattle.safl_vread.proofs.SignalNames.{signals_few}
use Rattle.safl_vread.proofs.Orders.{order_long}
use Rattle.safl_vread.proofs.NewNames.{output_new}
use Rattle.safl_vread.proofs.Whole.{net_whole}
use Rattle.safl_vread.proofs.make.net_of.Goals as goal

pub numbers_of-requires-clause-few : goal.numbers_of-requires-clause-few
numbers_of-requires-clause-few c =
    let ds : List Declaration = shown_declarations c.args.scope.now.text.now c.args.scope.now.declarations.now in
    omega (
      arith,
      signals_few ds,
      order_long ds c.in_ok-order.order.items c.in_ok-order.ensures,
      ap length c.deref.ensures.value,
      length-map
          c.args.scope.now.declarations.now (shown_declaration c.args.scope.now.text.now),
      c.requires.few,
    )

pub declare-requires-clause-few : goal.declare-requires-clause-few
declare-requires-clause-few c =
    let ds : List Declaration = shown_declarations c.args.scope.now.text.now c.args.scope.now.declarations.now in
    omega (
      arith,
      signals_few ds,
      order_long ds c.in_ok-order.order.items c.in_ok-order.ensures,
      ap length c.deref-2.ensures.value,
      length-map
          c.args.scope.now.declarations.now (shown_declaration c.args.scope.now.text.now),
      c.requires.few,
    )

pub connect-requires-clause-few : goal.connect-requires-clause-few
connect-requires-clause-few c =
    let ds : List Declaration = shown_declarations c.args.scope.now.text.now c.args.scope.now.declarations.now in
    omega (
      arith,
      signals_few ds,
      order_long ds c.in_ok-order.order.items c.in_ok-order.ensures,
      ap length c.deref-3.ensures.value,
      length-map
          c.args.scope.now.declarations.now (shown_declaration c.args.scope.now.text.now),
      c.requires.few,
    )

pub connect-requires-clause-opened : goal.connect-requires-clause-opened
connect-requires-clause-opened c =
    let ds : List Declaration = shown_declarations c.args.scope.now.text.now c.args.scope.now.declarations.now in
    ap (λ (n : Netlist). n.signals) (c.in_ok-declare.ensures c.deref-4.result.now)
    ∙ ap (λ (k : List ℕ). map opened (signals_at ds c.args.drivers.now c.deref-4.result.now k)) (c.deref-2.ensures.value ∙ sym c.deref-3.ensures.value)

pub show-requires-clause-empty : goal.show-requires-clause-empty
show-requires-clause-empty c = ap (λ (n : Netlist). n.outputs) c.connect.ensures ∙ ap (λ (n : Netlist). n.outputs) (c.in_ok-declare.ensures [])

pub show-requires-clause-new : goal.show-requires-clause-new
show-requires-clause-new c = λ i d there out.
    let ds : List Declaration = shown_declarations c.args.scope.now.text.now c.args.scope.now.declarations.now in
    let o = subst (λ (k : List ℕ). IsOrder ds k) (sym c.deref-3.ensures.value) c.in_ok-order.ensures in
    ap (λ (n : Netlist). named_signal n.signals d.name.bytes) c.connect.ensures
    ∙ output_new ds (distinct_names ds c.args.scope.now.apart) c.deref-3.result.now o c.args.drivers.now c.deref-4.result.now
    (c.requires.full ∙ sym (length-map c.args.scope.now.declarations.now (shown_declaration c.args.scope.now.text.now))) i d there out

pub returns : goal.returns
returns c = λ f e h.
    let n = subst (λ (k : List ℕ). AreNumbers (shown_declarations c.args.scope.now.text.now c.args.scope.now.declarations.now) k
    c.in_ok-numbers.numbers.items) c.deref.ensures.value c.in_ok-numbers.ensures in
    net_whole f (shown_declarations c.args.scope.now.text.now c.args.scope.now.declarations.now) c.args.drivers.now c.in_ok-numbers.numbers.items
    c.in_ok-order.order.items c.declare.new.net c.connect.new.net c.show.new.net c.deref-4.result.now c.deref-5.result.now c.deref-3.result.now
    e h c.requires.fit n c.in_ok-order.ensures c.deref-4.ensures.value c.deref-5.ensures.value c.deref-3.ensures.value
    (ap (λ (n : Netlist). n.outputs) (c.in_ok-declare.ensures [])) c.connect.ensures c.in_ok-show.ensures
