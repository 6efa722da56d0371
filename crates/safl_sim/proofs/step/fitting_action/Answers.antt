use Rattle.safl_net.specs.Stored.{cell_of}
use Rattle.safl_sim.proofs.Actions.{performs_alike}
use Rattle.safl_sim.proofs.step.fitting_action.Goals as goal

pub returns-else-is_narrow-clause-performs : goal.returns-else-is_narrow-clause-performs
returns-else-is_narrow-clause-performs c =
    performs_alike c.args.net.now (cell_of c.args.cell.now) c.widened.result c.action_of-action.result c.widened.ensures.same c.action_of-action.ensures
