use Rattle.std.proofs.Common.{slice_index, subst}
use Rattle.safl_net.specs.Netlist.{Netlist}
use Rattle.safl_net.specs.Rules.{IsNetlist}
use Rattle.safl_net.specs.Valuations.{IsAcyclic, reset_state}
use Rattle.safl_run.proofs.OneAnswer.{outcome, answers_along, from_reset}
use Rattle.safl_run.proofs.until_done.run_until_done.Goals as goal

pub returns-clause-outcome : goal.returns-clause-outcome
returns-clause-outcome c =
    let n : Netlist = c.args.sim.now.net in
    let after = slice_index c.call.new.sim.state in
    outcome n (subst (λ m. IsNetlist m) c.net.ensures c.in_ok-harness.ensures.made) c.requires.whole
    (subst (λ m. IsAcyclic m) c.ordered.ensures c.net-net.ensures.acyclic) c.args.args.now c.args.limit c.call.result after
    (answers_along n c.args.limit (slice_index c.args.sim.now.state) (reset_state n) c.args.args.now c.call.result after (from_reset n c.args.sim.now.state c.requires.fresh) c.call.ensures.answers)
