use Rattle.std.proofs.Common.{option_copied, sym, ap, ◌∙◌}
use Rattle.safl_net.specs.Stored.{cell_of, maybe_cell}
use Rattle.safl_order.proofs.Moves.{wire_in_net}
use Rattle.safl_sim.proofs.Builds.{cell_found}
use Rattle.safl_sim.proofs.parts.step_of.Goals as goal

pub fitting_action-requires-clause-fits : goal.fitting_action-requires-clause-fits
fitting_action-requires-clause-fits c =
    cell_found c.args.net.now c.args.wire.0 (cell_of c.in-Some.cell.now) c.requires.netlist
    (sym c.cell.ensures ∙ ap (λ x. maybe_cell (option_copied x)) c.in-Some.is)

pub fitting_action-requires-clause-known : goal.fitting_action-requires-clause-known
fitting_action-requires-clause-known c = wire_in_net c.args.net.now c.args.wire.0 c.requires.wire
