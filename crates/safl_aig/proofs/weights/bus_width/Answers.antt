use Rattle.std.proofs.Common.{◌≤◌, sym, ◌∙◌, subst}
use Rattle.safl_aig.proofs.Nets.{width_le}
use Rattle.safl_aig.proofs.weights.bus_width.Goals as goal

pub returns-clause-few : goal.returns-clause-few
returns-clause-few c = subst (λ n. n ≤ 128) (sym (c.from.ensures ∙ c.width.ensures)) (width_le c.args.net.now c.signals-count.ensures.netlist c.args.s.0)
