use Rattle.std.proofs.Common.{ap, subst, ◌∙◌}
use Rattle.safl_net.specs.Netlist.{Netlist, output_place}
use Rattle.safl_net.specs.Rules.{IsNetlist}
use Rattle.safl_net.proofs.Finding.{shown, shown_known}
use Rattle.safl_net.proofs.net.Net.output_named.Goals as goal

pub returns-clause-number : goal.returns-clause-number
returns-clause-number c =
    shown c.self.inside.outputs.entries c.args.name.now c.copied.result (c.copied.ensures ∙ c.get.ensures.value)
    ∙ ap (λ (n : Netlist). output_place n.outputs c.args.name.now) c.self.view_is

pub returns-clause-known : goal.returns-clause-known
returns-clause-known c =
    shown_known c.args.self.now c.args.name.now c.copied.result (subst IsNetlist c.self.view_is c.self.invariant.netlist)
    (shown c.self.inside.outputs.entries c.args.name.now c.copied.result (c.copied.ensures ∙ c.get.ensures.value)
    ∙ ap (λ (n : Netlist). output_place n.outputs c.args.name.now) c.self.view_is)
