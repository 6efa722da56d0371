use Rattle.std.proofs.Common.{codes, ap, ◌∙◌}
use Rattle.safl_net.specs.Netlist.{Netlist, Input}
use Rattle.safl_net.specs.Making.{with_signal}
use Rattle.safl_net.proofs.Growth.{within}
use Rattle.safl_bench.proofs.Takes.{takes_one}
use Rattle.safl_bench.proofs.wide_nets.mixed.Goals as goal

pub returns-clause-takes : goal.returns-clause-takes
returns-clause-takes c =
    takes_one c.input.new.self c.chain.new.net (codes "x") c.args.width
    (c.in-Ok.ensures.added ∙ ap (λ (n : Netlist). with_signal n (record { name = codes "x"; width = c.args.width; kind = Input })) c.new-net.ensures)
    c.in_ok-last.ensures.grows

pub returns-clause-last : goal.returns-clause-last
returns-clause-last c = within c.chain.new.net c.in_ok-last.last.0 c.args.width c.in_ok-last.ensures.has
