use Rattle.safl_tool.proofs.Common.{IsWhole, Netlist, ap, argument_widths, err_from_is_err_and, map, string_bytes, subst, sym, ◌∙◌}
use Rattle.safl_tool.specs.Readiness.{IsReady}
use Rattle.safl_tool.proofs.Simulated.{arguments_refused, source_refused}
use Rattle.safl_tool.proofs.ready.ready_source.Goals as goal

pub returns-in_err-net-clause-refused : goal.returns-in_err-net-clause-refused
returns-in_err-net-clause-refused c =
    let p = err_from_is_err_and c.from_residual.result c.from_residual.ensures.1 in
    rw (p.1, p.2) (source_refused c.args.name.now c.args.source.now (map string_bytes c.args.args.now) c.in_err-net.field-0.0 c.in_err-net.ensures.refused)

pub ready_net-requires : goal.ready_net-requires
ready_net-requires c = subst (λ (n : Netlist). IsWhole n) (sym c.in_ok-ordered.ensures) c.in_ok-net.ensures.compiled.whole

pub returns-clause-ready : goal.returns-clause-ready
returns-clause-ready c = record {
  net = c.in_ok-net.net;
  compiled = c.in_ok-net.ensures.compiled;
  ready = subst (λ (n : Netlist). IsReady n (map string_bytes c.args.args.now) c.in_ok-ready_net.field-0) c.in_ok-ordered.ensures c.in_ok-ready_net.ensures.ready;
}

pub returns-in_err-ready_net-clause-refused : goal.returns-in_err-ready_net-clause-refused
returns-in_err-ready_net-clause-refused c =
    let p = err_from_is_err_and c.from_residual-in_err-ready_net.result c.from_residual-in_err-ready_net.ensures.1 in
    let is = c.in_ok-net.ensures.compiled in
    rw (p.1, p.2)
    (arguments_refused c.args.name.now c.args.source.now is.program is.names (map string_bytes c.args.args.now) (argument_widths c.in_ok-ordered.ordered.net.signals)
    (ap (λ (n : Netlist). argument_widths n.signals) c.in_ok-ordered.ensures ∙ is.params) is.source_of c.in_err-ready_net.field-0.0 c.in_err-ready_net.ensures.refused)
