use Rattle.safl_unit.proofs.Common.{argument_lines, at_line, open_register, unit_head, ◌++◌}
use Rattle.safl_unit.proofs.layout.Adding.{lines_first, lines_rest}
use Rattle.safl_unit.proofs.layout.Pinning.{pinned}
use Rattle.safl_unit.proofs.declare.add_function.Goals as goal

pub returns-clause-pinned : goal.returns-clause-pinned
returns-clause-pinned c =
    pinned c.args.c.now c.args.f c.args.net.now c.add_unit.new.net c.add_at.new.net c.add_arguments.new.net c.args.units.now c.in_ok-unit.unit
    (record { at = c.in_ok-at.at; args = c.in_ok-args.args })
    c.in_ok-unit.ensures.added c.in_ok-unit.ensures.order c.in_ok-unit.ensures.same
    c.in_ok-at.ensures.added c.in_ok-at.ensures.order c.in_ok-at.ensures.lone
    c.in_ok-args.ensures.added c.in_ok-args.ensures.order

pub add_at-requires-clause-free : goal.add_at-requires-clause-free
add_at-requires-clause-free c =
    let C = c.args.c.now.program in
    let D = c.args.c.now.names in
    lines_first open_register c.add_unit.new.net (at_line C D c.args.f) (argument_lines C D c.args.f)
    (lines_rest open_register c.args.net.now c.add_unit.new.net (unit_head C D c.args.f) (at_line C D c.args.f ++ argument_lines C D c.args.f) c.requires.free c.in_ok-unit.ensures.added)

pub add_arguments-requires-clause-free : goal.add_arguments-requires-clause-free
add_arguments-requires-clause-free c =
    let C = c.args.c.now.program in
    let D = c.args.c.now.names in
    lines_rest open_register c.add_unit.new.net c.add_at.new.net (at_line C D c.args.f) (argument_lines C D c.args.f)
    (lines_rest open_register c.args.net.now c.add_unit.new.net (unit_head C D c.args.f) (at_line C D c.args.f ++ argument_lines C D c.args.f) c.requires.free c.in_ok-unit.ensures.added)
    c.in_ok-at.ensures.added
