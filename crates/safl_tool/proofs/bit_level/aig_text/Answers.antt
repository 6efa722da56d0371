use Rattle.safl_tool.proofs.Common.{IsRefused, Netlist, RefusesBy, err_from_is_err_and, refl, subst, sym}
use Rattle.safl_tool.specs.BitLevel.{RefusesNetlist}
use Rattle.safl_tool.proofs.Bits.{net_refuses, netlist_refuses}
use Rattle.safl_tool.proofs.bit_level.aig_text.Goals as goal

pub returns-in_err-ordered-clause-refused : goal.returns-in_err-ordered-clause-refused
returns-in_err-ordered-clause-refused c =
    let p = err_from_is_err_and c.from_residual.result c.from_residual.ensures.1 in
    rw (p.1, p.2) (net_refuses c.args.name.now c.args.text.now c.in_err-ordered.field-0.0 c.in_err-ordered.ensures.refused)

pub returns-in-Ok-clause-gives : goal.returns-in-Ok-clause-gives
returns-in-Ok-clause-gives c =
    (c.in-Ok.text.items, (c.in_ok-ordered.ordered.net, c.in_ok-ordered.ensures.runnable, c.in-Ok.ensures.text), refl)

pub refusal_of_net-requires : goal.refusal_of_net-requires
refusal_of_net-requires c = subst (λ (n : Netlist). IsRefused n c.in-Err.error) (sym c.net.ensures.net) c.in-Err.ensures.refused

pub returns-clause-refused : goal.returns-clause-refused
returns-clause-refused c =
    netlist_refuses c.args.name.now c.args.text.now c.in_ok-ordered.ordered.net c.refusal_of_net.result c.in_ok-ordered.ensures.runnable
    (subst (λ (n : Netlist). RefusesBy (RefusesNetlist n) c.refusal_of_net.result) c.net.ensures.net c.refusal_of_net.ensures.refuses)
