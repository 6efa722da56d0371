use Rattle.std.proofs.Common.{◌≡◌, ◌+◌, ◌<◌, ◌≤◌, Some, length, slice_get, sym, subst, ap, ◌∙◌, arith}
use Rattle.safl_net.specs.Making.{numbers}
use Rattle.safl_net.proofs.Keeping.{numbers_length}
use Rattle.safl_order.specs.Order.{IsOrder}
use Rattle.safl_order.proofs.Moves.{wire_in_net}
use Rattle.safl_aig.specs.Weights.{weight}
use Rattle.safl_aig.specs.Tables.{first_and, input_count, latch_count}
use Rattle.safl_aig.specs.Wiring.{OperandsReady, WireMade, Connected}
use Rattle.safl_aig.proofs.Cells.{sig}
use Rattle.safl_aig.proofs.Connecting.{first_light, operands_ready, wire_room, underway_start, underway_step, underway_end, numbers_at}
use Rattle.safl_aig.proofs.wiring.connect.Goals as goal

pub sources-requires-clause-few : goal.sources-requires-clause-few
sources-requires-clause-few c =
    let n = c.net-net.result.now in
    let q : n ≡ c.args.o.now.net = c.net-net.ensures.net in
    let light : weight n ≤ 1000000 = subst (λ x. weight x ≤ 1000000) (sym q) c.requires.light in
    let first : 1 + c.args.inputs + c.args.latches ≡ first_and n = (λ i. 1 + (c.requires.inputs ∙ ap input_count (sym q)) i + (c.requires.latches ∙ ap latch_count (sym q)) i) in
    let f = first_light n in
    omega (arith, light, f)

pub overflow_add-inputs : goal.overflow_add-inputs
overflow_add-inputs c =
    let n = c.net-net.result.now in
    let q : n ≡ c.args.o.now.net = c.net-net.ensures.net in
    let light : weight n ≤ 1000000 = subst (λ x. weight x ≤ 1000000) (sym q) c.requires.light in
    let first : 1 + c.args.inputs + c.args.latches ≡ first_and n = (λ i. 1 + (c.requires.inputs ∙ ap input_count (sym q)) i + (c.requires.latches ∙ ap latch_count (sym q)) i) in
    let f = first_light n in
    omega (arith, light, f, first)

pub overflow_add-inputs-2 : goal.overflow_add-inputs-2
overflow_add-inputs-2 c =
    let n = c.net-net.result.now in
    let q : n ≡ c.args.o.now.net = c.net-net.ensures.net in
    let light : weight n ≤ 1000000 = subst (λ x. weight x ≤ 1000000) (sym q) c.requires.light in
    let first : 1 + c.args.inputs + c.args.latches ≡ first_and n = (λ i. 1 + (c.requires.inputs ∙ ap input_count (sym q)) i + (c.requires.latches ∙ ap latch_count (sym q)) i) in
    let f = first_light n in
    omega (arith, light, f, first)

pub new-graph-requires-clause-few : goal.new-graph-requires-clause-few
new-graph-requires-clause-few c =
    let n = c.net-net.result.now in
    let q : n ≡ c.args.o.now.net = c.net-net.ensures.net in
    let light : weight n ≤ 1000000 = subst (λ x. weight x ≤ 1000000) (sym q) c.requires.light in
    let first : 1 + c.args.inputs + c.args.latches ≡ first_and n = (λ i. 1 + (c.requires.inputs ∙ ap input_count (sym q)) i + (c.requires.latches ∙ ap latch_count (sym q)) i) in
    let f = first_light n in
    omega (arith, light, f, first)

pub wires-init : goal.wires-init
wires-init c =
    let n = c.net-net.result.now in
    let q : n ≡ c.args.o.now.net = c.net-net.ensures.net in
    let light : weight n ≤ 1000000 = subst (λ x. weight x ≤ 1000000) (sym q) c.requires.light in
    let first : 1 + c.args.inputs + c.args.latches ≡ first_and n = (λ i. 1 + (c.requires.inputs ∙ ap input_count (sym q)) i + (c.requires.latches ∙ ap latch_count (sym q)) i) in
    let f = first_light n in
    let ws = numbers c.wires-wires.result.now in
    let order : IsOrder n ws = subst (λ x. IsOrder x ws) (sym q) (subst (λ x. IsOrder c.args.o.now.net x) (sym c.wires-wires.ensures.wires) c.wires-wires.ensures.order) in
    let e = c.new-graph.ensures in
    underway_start n ws c.new-graph.result c.in_ok-table.table.items (ap (λ x. x.first) e ∙ first) (ap (λ x. x.ands) e) c.in_ok-table.ensures.long c.in_ok-table.ensures.lits

pub wire_bits-requires-clause-wire : goal.wire_bits-requires-clause-wire
wire_bits-requires-clause-wire c =
    let n = c.net-net.result.now in
    let q : n ≡ c.args.o.now.net = c.net-net.ensures.net in
    let light : weight n ≤ 1000000 = subst (λ x. weight x ≤ 1000000) (sym q) c.requires.light in
    let first : 1 + c.args.inputs + c.args.latches ≡ first_and n = (λ i. 1 + (c.requires.inputs ∙ ap input_count (sym q)) i + (c.requires.latches ∙ ap latch_count (sym q)) i) in
    let f = first_light n in
    let ws = numbers c.wires-wires.result.now in
    let order : IsOrder n ws = subst (λ x. IsOrder x ws) (sym q) (subst (λ x. IsOrder c.args.o.now.net x) (sym c.wires-wires.ensures.wires) c.wires-wires.ensures.order) in
    let i = c.wires.i in
    let s = (sig c.wires-wires.result.now i).0 in
    let here : slice_get ws i ≡ Some s = numbers_at c.wires-wires.result.now i c.wires-test.true in
    let inside : i < length ws = let k = numbers_length c.wires-wires.result.now in let t = c.wires-test.true in omega (arith, k, t) in
    let made = c.signals-count.ensures.netlist in
    let old = c.wires.invariant in
    let table = c.wires.table.items in
    let g = c.wires.graph in
    let d = c.deref.ensures.value in
    order.wires i s here

pub wire_bits-requires-clause-room : goal.wire_bits-requires-clause-room
wire_bits-requires-clause-room c =
    let n = c.net-net.result.now in
    let q : n ≡ c.args.o.now.net = c.net-net.ensures.net in
    let light : weight n ≤ 1000000 = subst (λ x. weight x ≤ 1000000) (sym q) c.requires.light in
    let first : 1 + c.args.inputs + c.args.latches ≡ first_and n = (λ i. 1 + (c.requires.inputs ∙ ap input_count (sym q)) i + (c.requires.latches ∙ ap latch_count (sym q)) i) in
    let f = first_light n in
    let ws = numbers c.wires-wires.result.now in
    let order : IsOrder n ws = subst (λ x. IsOrder x ws) (sym q) (subst (λ x. IsOrder c.args.o.now.net x) (sym c.wires-wires.ensures.wires) c.wires-wires.ensures.order) in
    let i = c.wires.i in
    let s = (sig c.wires-wires.result.now i).0 in
    let here : slice_get ws i ≡ Some s = numbers_at c.wires-wires.result.now i c.wires-test.true in
    let inside : i < length ws = let k = numbers_length c.wires-wires.result.now in let t = c.wires-test.true in omega (arith, k, t) in
    let made = c.signals-count.ensures.netlist in
    let old = c.wires.invariant in
    let table = c.wires.table.items in
    let g = c.wires.graph in
    let d = c.deref.ensures.value in
    wire_room n ws g table i s made order here old inside light

pub wire_bits-requires-clause-ready : goal.wire_bits-requires-clause-ready
wire_bits-requires-clause-ready c =
    let n = c.net-net.result.now in
    let q : n ≡ c.args.o.now.net = c.net-net.ensures.net in
    let light : weight n ≤ 1000000 = subst (λ x. weight x ≤ 1000000) (sym q) c.requires.light in
    let first : 1 + c.args.inputs + c.args.latches ≡ first_and n = (λ i. 1 + (c.requires.inputs ∙ ap input_count (sym q)) i + (c.requires.latches ∙ ap latch_count (sym q)) i) in
    let f = first_light n in
    let ws = numbers c.wires-wires.result.now in
    let order : IsOrder n ws = subst (λ x. IsOrder x ws) (sym q) (subst (λ x. IsOrder c.args.o.now.net x) (sym c.wires-wires.ensures.wires) c.wires-wires.ensures.order) in
    let i = c.wires.i in
    let s = (sig c.wires-wires.result.now i).0 in
    let here : slice_get ws i ≡ Some s = numbers_at c.wires-wires.result.now i c.wires-test.true in
    let inside : i < length ws = let k = numbers_length c.wires-wires.result.now in let t = c.wires-test.true in omega (arith, k, t) in
    let made = c.signals-count.ensures.netlist in
    let old = c.wires.invariant in
    let table = c.wires.table.items in
    let g = c.wires.graph in
    let d = c.deref.ensures.value in
    subst (λ x. OperandsReady n g x s) (sym d) (operands_ready n ws g table i s made order here old)

pub index_mut-requires : goal.index_mut-requires
index_mut-requires c =
    let n = c.net-net.result.now in
    let q : n ≡ c.args.o.now.net = c.net-net.ensures.net in
    let light : weight n ≤ 1000000 = subst (λ x. weight x ≤ 1000000) (sym q) c.requires.light in
    let first : 1 + c.args.inputs + c.args.latches ≡ first_and n = (λ i. 1 + (c.requires.inputs ∙ ap input_count (sym q)) i + (c.requires.latches ∙ ap latch_count (sym q)) i) in
    let f = first_light n in
    let ws = numbers c.wires-wires.result.now in
    let order : IsOrder n ws = subst (λ x. IsOrder x ws) (sym q) (subst (λ x. IsOrder c.args.o.now.net x) (sym c.wires-wires.ensures.wires) c.wires-wires.ensures.order) in
    let i = c.wires.i in
    let s = (sig c.wires-wires.result.now i).0 in
    let here : slice_get ws i ≡ Some s = numbers_at c.wires-wires.result.now i c.wires-test.true in
    let inside : i < length ws = let k = numbers_length c.wires-wires.result.now in let t = c.wires-test.true in omega (arith, k, t) in
    let made = c.signals-count.ensures.netlist in
    let old = c.wires.invariant in
    let table = c.wires.table.items in
    let g = c.wires.graph in
    let d = c.deref.ensures.value in
    let k = wire_in_net n s (order.wires i s here) in
    let l = c.wires.table.ok.0 in
    omega (arith, k, l, old.long)

pub wires-preserved : goal.wires-preserved
wires-preserved c =
    let n = c.net-net.result.now in
    let q : n ≡ c.args.o.now.net = c.net-net.ensures.net in
    let light : weight n ≤ 1000000 = subst (λ x. weight x ≤ 1000000) (sym q) c.requires.light in
    let first : 1 + c.args.inputs + c.args.latches ≡ first_and n = (λ i. 1 + (c.requires.inputs ∙ ap input_count (sym q)) i + (c.requires.latches ∙ ap latch_count (sym q)) i) in
    let f = first_light n in
    let ws = numbers c.wires-wires.result.now in
    let order : IsOrder n ws = subst (λ x. IsOrder x ws) (sym q) (subst (λ x. IsOrder c.args.o.now.net x) (sym c.wires-wires.ensures.wires) c.wires-wires.ensures.order) in
    let i = c.wires.i in
    let s = (sig c.wires-wires.result.now i).0 in
    let here : slice_get ws i ≡ Some s = numbers_at c.wires-wires.result.now i c.wires-test.true in
    let inside : i < length ws = let k = numbers_length c.wires-wires.result.now in let t = c.wires-test.true in omega (arith, k, t) in
    let made = c.signals-count.ensures.netlist in
    let old = c.wires.invariant in
    let table = c.wires.table.items in
    let g = c.wires.graph in
    let d = c.deref.ensures.value in
    let w = subst (λ x. WireMade n c.wire_bits.new.g x s c.in_ok-bits.bits.items) d c.in_ok-bits.ensures.made in
    underway_step n ws g table i s made order here old c.wire_bits.new.g (record { bits = c.in_ok-bits.bits }) inside c.wire_bits.ensures.built w

pub returns : goal.returns
returns c =
    let n = c.net-net.result.now in
    let q : n ≡ c.args.o.now.net = c.net-net.ensures.net in
    let light : weight n ≤ 1000000 = subst (λ x. weight x ≤ 1000000) (sym q) c.requires.light in
    let first : 1 + c.args.inputs + c.args.latches ≡ first_and n = (λ i. 1 + (c.requires.inputs ∙ ap input_count (sym q)) i + (c.requires.latches ∙ ap latch_count (sym q)) i) in
    let f = first_light n in
    let ws = numbers c.wires-wires.result.now in
    let order : IsOrder n ws = subst (λ x. IsOrder x ws) (sym q) (subst (λ x. IsOrder c.args.o.now.net x) (sym c.wires-wires.ensures.wires) c.wires-wires.ensures.order) in
    let i = c.wires.i in
    let last : i ≡ length ws = let k = numbers_length c.wires-wires.result.now in let t = c.wires-test.false in let u = c.wires.auto.i-end in omega (arith, k, t, u) in
    subst (λ x. Connected x c.wires.graph c.wires.table.items) q (underway_end n ws c.wires.graph c.wires.table.items i order last c.wires.invariant)
