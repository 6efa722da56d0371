use Rattle.safl_tool.proofs.Common.{GivesOutcome, IfErr, IfOk, Netlist, RefusesArguments, RefusesBy, argument_widths}
use Rattle.std.proofs.Common.{map, string_bytes, subst}
use Rattle.safl_tool.proofs.simulate.run_circuit.Goals as goal

pub returns-clause-answer : goal.returns-clause-answer
returns-clause-answer c = subst (λ (x : Netlist). IfOk c.run_net.result (GivesOutcome x (map string_bytes c.args.args.now) c.args.limit)) c.in_ok-ordered.ensures c.run_net.ensures.answer

pub returns-clause-refused : goal.returns-clause-refused
returns-clause-refused c =
    subst (λ (x : Netlist). IfErr c.run_net.result (RefusesBy (RefusesArguments (argument_widths x.signals) (map string_bytes c.args.args.now)))) c.in_ok-ordered.ensures c.run_net.ensures.refused
