use Rattle.safl_opt.proofs.Common.{Cell, Sig, Wire, cell_of, new_number, op_width}
use Rattle.std.proofs.Common.{◌≡◌, ◌<◌, ℕ, List, All, Some, length, map, sym, ap, subst, ◌∙◌}
use Rattle.safl_net.specs.Making.{kind_at, numbers, signal_widths, with_kind}
use Rattle.safl_opt.specs.Stages.{AreListed}
use Rattle.safl_opt.proofs.Adding.{kind_of_cell}
use Rattle.safl_opt.proofs.Setting.{turn_known, cell_listed, cell_known, cell_gives, never_open_wire, width_here, wire_open, wire_set, known_numbers}
use Rattle.safl_opt.proofs.build.set_wire.Goals as goal

pub new_numbers-operands-requires-clause-listed : goal.new_numbers-operands-requires-clause-listed
new_numbers-operands-requires-clause-listed c =
    let k = kind_of_cell (kind_at c.args.old.now c.args.from.0) (cell_of c.in-Some.cell.now) c.in-Some.ensures in
    subst (AreListed c.args.values.now c.args.made.now) (sym (ap numbers c.as_slice.ensures.value))
    (cell_listed c.args.old.now c.signals-count.ensures.netlist c.args.values.now c.args.made.now c.args.i c.args.from.0 c.args.net.now c.requires.turn (cell_of c.in-Some.cell.now) k)

pub set_cell-requires-clause-open : goal.set_cell-requires-clause-open
set_cell-requires-clause-open c =
    let k = kind_of_cell (kind_at c.args.old.now c.args.from.0) (cell_of c.in-Some.cell.now) c.in-Some.ensures in
    wire_open c.args.old.now c.args.values.now c.args.made.now c.args.i c.args.from.0 c.args.net.now c.requires.turn (cell_of c.in-Some.cell.now) k

-- the operands of the new cell
are_new : (ys zs : List Sig) (xs ws : List Sig) (g : ℕ → ℕ) → ys ≡ zs → numbers zs ≡ map g (numbers xs) → xs ≡ ws → numbers ys ≡ map g (numbers ws)
are_new ys zs xs ws g e f h = ap numbers e ∙ f ∙ ap (λ l. map g (numbers l)) h

pub set_cell-requires-clause-known : goal.set_cell-requires-clause-known
set_cell-requires-clause-known c =
    let k = kind_of_cell (kind_at c.args.old.now c.args.from.0) (cell_of c.in-Some.cell.now) c.in-Some.ensures in
    let q = are_new c.as_slice-in-Some.result.now c.new_numbers-operands.result.items c.as_slice.result.now c.in-Some.cell.now.operands.items
    (new_number c.args.values.now c.args.made.now) c.as_slice-in-Some.ensures.value c.new_numbers-operands.ensures c.as_slice.ensures.value in
    known_numbers c.args.net.now c.as_slice-in-Some.result.now
    (subst (All (λ x. x < length c.args.net.now.signals)) (sym q)
    (cell_known c.args.old.now c.signals-count.ensures.netlist c.args.values.now c.args.made.now c.args.i c.args.from.0 c.args.net.now
    c.requires.turn (cell_of c.in-Some.cell.now) k))

pub set_cell-requires-clause-fits : goal.set_cell-requires-clause-fits
set_cell-requires-clause-fits c =
    let k = kind_of_cell (kind_at c.args.old.now c.args.from.0) (cell_of c.in-Some.cell.now) c.in-Some.ensures in
    let q = are_new c.as_slice-in-Some.result.now c.new_numbers-operands.result.items c.as_slice.result.now c.in-Some.cell.now.operands.items
    (new_number c.args.values.now c.args.made.now) c.as_slice-in-Some.ensures.value c.new_numbers-operands.ensures c.as_slice.ensures.value in
    ap (λ l. op_width c.in-Some.cell.now.op (signal_widths c.args.net.now l)) q
    ∙ cell_gives c.args.old.now c.signals-count.ensures.netlist c.args.values.now c.args.made.now c.args.i c.args.from.0 c.args.net.now c.requires.turn (cell_of c.in-Some.cell.now) k
    ∙ ap Some (sym (width_here c.args.old.now c.args.values.now c.args.made.now c.args.i c.args.from.0 c.args.net.now c.requires.turn))

pub unreachable-requires : goal.unreachable-requires
unreachable-requires c =
    never_open_wire c.args.old.now c.requires.turn.order.set c.args.from.0
    (turn_known c.args.old.now c.signals-count.ensures.netlist c.args.values.now c.args.made.now c.args.i c.args.from.0 c.args.net.now
    c.requires.turn) c.requires.wire c.in-None.ensures

pub returns : goal.returns
returns c =
    let k = kind_of_cell (kind_at c.args.old.now c.args.from.0) (cell_of c.in-Some.cell.now) c.in-Some.ensures in
    let q = are_new c.as_slice-in-Some.result.now c.new_numbers-operands.result.items c.as_slice.result.now c.in-Some.cell.now.operands.items
    (new_number c.args.values.now c.args.made.now) c.as_slice-in-Some.ensures.value c.new_numbers-operands.ensures c.as_slice.ensures.value in
    wire_set c.args.old.now c.args.values.now c.args.made.now c.args.i c.args.from.0 c.args.net.now c.requires.turn (cell_of c.in-Some.cell.now) k c.set_cell.new.net
    (c.set_cell.ensures ∙ ap (λ (l : List ℕ). with_kind c.args.net.now c.args.i (Wire (Some (let x : Cell = record { op = c.in-Some.cell.now.op; operands = l } in x)))) q)
