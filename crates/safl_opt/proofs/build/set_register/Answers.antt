use Rattle.safl_opt.proofs.Common.{ap, length, subst, sym, width_of, ◌<◌, ◌∙◌}
use Rattle.safl_opt.proofs.Setting.{turn_known, next_listed, next_number_known, next_fits, never_open_register, width_here, init_of, register_kind, register_open, register_set}
use Rattle.safl_opt.proofs.build.set_register.Goals as goal

pub new_number-requires-clause-known : goal.new_number-requires-clause-known
new_number-requires-clause-known c =
    let n = c.args.old.now in
    let f = c.args.values.now in
    let k = register_kind n f c.args.made.now c.args.i c.args.from.0 c.args.net.now c.requires.turn c.in-Some.next.0 c.in-Some.ensures in
    (next_listed n c.signals-count.ensures.netlist f c.args.made.now c.args.i c.args.from.0 c.args.net.now c.requires.turn
    (init_of n f c.args.made.now c.args.i c.args.from.0 c.args.net.now c.requires.turn c.in-Some.next.0 c.in-Some.ensures) c.in-Some.next.0 k).0

pub new_number-requires-clause-listed : goal.new_number-requires-clause-listed
new_number-requires-clause-listed c =
    let n = c.args.old.now in
    let f = c.args.values.now in
    let k = register_kind n f c.args.made.now c.args.i c.args.from.0 c.args.net.now c.requires.turn c.in-Some.next.0 c.in-Some.ensures in
    (next_listed n c.signals-count.ensures.netlist f c.args.made.now c.args.i c.args.from.0 c.args.net.now c.requires.turn
    (init_of n f c.args.made.now c.args.i c.args.from.0 c.args.net.now c.requires.turn c.in-Some.next.0 c.in-Some.ensures) c.in-Some.next.0 k).1

pub set_next-requires-clause-open : goal.set_next-requires-clause-open
set_next-requires-clause-open c = register_open c.args.old.now c.args.values.now c.args.made.now c.args.i c.args.from.0 c.args.net.now c.requires.turn c.in-Some.next.0 c.in-Some.ensures

pub set_next-requires-clause-known : goal.set_next-requires-clause-known
set_next-requires-clause-known c =
    let n = c.args.old.now in
    let f = c.args.values.now in
    let k = register_kind n f c.args.made.now c.args.i c.args.from.0 c.args.net.now c.requires.turn c.in-Some.next.0 c.in-Some.ensures in
    let i = init_of n f c.args.made.now c.args.i c.args.from.0 c.args.net.now c.requires.turn c.in-Some.next.0 c.in-Some.ensures in
    subst (λ z. z < length c.args.net.now.signals) (sym c.new_number.ensures)
    (next_number_known n c.signals-count.ensures.netlist f c.args.made.now c.args.i c.args.from.0 c.args.net.now c.requires.turn i c.in-Some.next.0 k)

pub set_next-requires-clause-fits : goal.set_next-requires-clause-fits
set_next-requires-clause-fits c =
    let n = c.args.old.now in
    let f = c.args.values.now in
    let k = register_kind n f c.args.made.now c.args.i c.args.from.0 c.args.net.now c.requires.turn c.in-Some.next.0 c.in-Some.ensures in
    let i = init_of n f c.args.made.now c.args.i c.args.from.0 c.args.net.now c.requires.turn c.in-Some.next.0 c.in-Some.ensures in
    ap (width_of c.args.net.now) c.new_number.ensures ∙ next_fits n c.signals-count.ensures.netlist f c.args.made.now c.args.i c.args.from.0 c.args.net.now c.requires.turn i c.in-Some.next.0 k
    ∙ sym (width_here n f c.args.made.now c.args.i c.args.from.0 c.args.net.now c.requires.turn)

pub unreachable-requires : goal.unreachable-requires
unreachable-requires c =
    never_open_register c.args.old.now c.requires.turn.order.set c.args.from.0
    (turn_known c.args.old.now c.signals-count.ensures.netlist c.args.values.now c.args.made.now c.args.i c.args.from.0 c.args.net.now
    c.requires.turn) c.requires.register c.in-None.ensures

pub returns : goal.returns
returns c = register_set c.args.old.now c.args.values.now c.args.made.now c.args.i c.args.from.0 c.args.net.now c.requires.turn c.in-Some.next.0
    c.in-Some.ensures c.set_next.new.net c.new_number.result.0 c.new_number.ensures c.set_next.ensures
