use Rattle.std.proofs.Common.{◌≡◌, length, take, ap, ◌∙◌, arith}
use Rattle.safl_run.specs.Rooms.{zeros_of}
use Rattle.safl_run.proofs.InputsAroundStart.{start_found, place, place_inside, is_room}
use Rattle.safl_run.proofs.input_words.Room.new.Goals as goal

pub index_mut-requires : goal.index_mut-requires
index_mut-requires c =
    let n = c.args.net.now in
    let made = c.signal_of.ensures.netlist in
    let here : c.inputs_before-start.result ≡ place n made c.requires = c.inputs_before-start.ensures ∙ ap (λ s. length (zeros_of (take s n.signals)))
    (start_found n c.requires c.signal_of.result.0 c.signal_of.ensures.signal) in
    let inside = place_inside n made c.requires in
    let many = ap length c.in_ok-first.ensures in
    let held = c.in_ok-first.first.ok.0 in
    omega (arith, here, inside, many, held)

pub returns : goal.returns
returns c =
    let n = c.args.net.now in
    let made = c.signal_of.ensures.netlist in
    let here : c.inputs_before-start.result ≡ place n made c.requires = c.inputs_before-start.ensures ∙ ap (λ s. length (zeros_of (take s n.signals)))
    (start_found n c.requires c.signal_of.result.0 c.signal_of.ensures.signal) in
    is_room n made c.requires c.inputs_before-start.result c.in_ok-first.first c.in_ok-later.later c.from_parts.result here c.in_ok-first.ensures c.in_ok-later.ensures c.from_parts.ensures
