use Rattle.safl_tool.proofs.Common.{IsOutcome, IsWhole, List, Netlist, Word, ap, map, resets, string_bytes, subst, sym, ◌∙◌}
use Rattle.safl_net.specs.Arguments.{argument_widths, AreArguments}
use Rattle.safl_tool.proofs.Simulated.{read_widths}
use Rattle.safl_tool.proofs.simulate.run_net.Goals as goal

pub run_until_done-requires-clause-whole : goal.run_until_done-requires-clause-whole
run_until_done-requires-clause-whole c = subst (λ (n : Netlist). IsWhole n) (sym c.in_ok-ready.ensures.ready.net) c.requires

pub run_until_done-requires-clause-fresh : goal.run_until_done-requires-clause-fresh
run_until_done-requires-clause-fresh c = c.in_ok-ready.ensures.ready.fresh ∙ ap resets (sym c.in_ok-ready.ensures.ready.net)

pub run_until_done-requires-clause-arguments : goal.run_until_done-requires-clause-arguments
run_until_done-requires-clause-arguments c =
    subst (λ (l : List Word). AreArguments c.in_ok-ready.ready.sim.net l) (sym c.deref.ensures.value)
    (subst (λ (n : Netlist). AreArguments n c.in_ok-ready.ready.words.items) (sym c.in_ok-ready.ensures.ready.net)
    (read_widths (argument_widths c.args.ordered.net.signals) (map string_bytes c.args.args.now) c.in_ok-ready.ready.words.items c.in_ok-ready.ensures.ready.read))

pub returns-clause-answer : goal.returns-clause-answer
returns-clause-answer c = record {
  words = c.in_ok-ready.ready.words.items;
  read = c.in_ok-ready.ensures.ready.read;
  outcome =
      subst (λ (n : Netlist). IsOutcome n c.in_ok-ready.ready.words.items c.args.limit c.in_ok-run_until_done.field-0) c.in_ok-ready.ensures.ready.net
      (subst (λ (l : List Word). IsOutcome c.in_ok-ready.ready.sim.net l c.args.limit c.in_ok-run_until_done.field-0) c.deref.ensures.value c.in_ok-run_until_done.ensures.outcome);
}
