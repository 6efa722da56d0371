use Rattle.safl_tool.proofs.Common.{Netlist, RefusesArguments, RefusesBy, Simulation, argument_widths, err_from_is_err_and}
use Rattle.std.proofs.Common.{ℕ, List, map, string_bytes, ap, subst, ◌∙◌}
use Rattle.safl_session.specs.Lines.{AreArguments}
use Rattle.safl_tool.proofs.ready.ready_net.Goals as goal

pub returns-clause-ready : goal.returns-clause-ready
returns-clause-ready c = record {
  net = ap (λ (s : Simulation). s.net) c.in-Ok.ensures.made;
  fresh = ap (λ (s : Simulation). s.state) c.in-Ok.ensures.made;
  read = subst (λ (l : List ℕ). AreArguments l (map string_bytes c.args.args.now) c.in_ok-words.words.items)
      (c.deref.ensures.value ∙ (c.in_ok-widths.ensures ∙ ap (λ (x : Netlist). argument_widths x.signals) c.net.ensures.net)) c.in_ok-words.ensures.read;
}

pub returns-in_err-words-clause-refused : goal.returns-in_err-words-clause-refused
returns-in_err-words-clause-refused c =
    let p = err_from_is_err_and c.from_residual-in_err-words.result c.from_residual-in_err-words.ensures.1 in
    rw (p.1, p.2)
    (subst (λ (l : List ℕ). RefusesBy (RefusesArguments l (map string_bytes c.args.args.now)) c.in_err-words.field-0.0)
    (c.deref.ensures.value ∙ (c.in_ok-widths.ensures ∙ ap (λ (x : Netlist). argument_widths x.signals) c.net.ensures.net)) c.in_err-words.ensures.refused)
