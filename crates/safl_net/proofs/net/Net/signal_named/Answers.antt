use Rattle.std.proofs.Common.{is_some, sym, ap, ◌∙◌}
use Rattle.safl_net.specs.Netlist.{Netlist, place}
use Rattle.safl_net.proofs.Finding.{placed, not_placed}
use Rattle.safl_net.proofs.net.Net.signal_named.Goals as goal

pub returns-in-Some-clause-number : goal.returns-in-Some-clause-number
returns-in-Some-clause-number c =
    placed c.self.inside.signals.entries c.args.name.now c.in-Some.i c.in-Some.ensures.within (sym c.get_index_of.ensures.index ∙ c.in-Some.is)
    ∙ ap (λ (n : Netlist). place n.signals c.args.name.now 0) c.self.view_is

pub returns-in-None-clause-number : goal.returns-in-None-clause-number
returns-in-None-clause-number c =
    not_placed c.self.inside.signals.entries c.args.name.now (sym c.get_index_of.ensures.found ∙ ap is_some c.in-None.is)
    ∙ ap (λ (n : Netlist). place n.signals c.args.name.now 0) c.self.view_is
