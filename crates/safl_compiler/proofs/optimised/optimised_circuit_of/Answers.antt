use Rattle.std.proofs.Common.{subst}
use Rattle.safl_net.specs.Netlist.{Netlist}
use Rattle.safl_circuit.specs.Mirrored.{AreMirrors}
use Rattle.safl_opt.specs.Smaller.{IsSmaller}
use Rattle.safl_compiler.proofs.Mirrored.{mirrored, laid_in_order}
use Rattle.safl_compiler.proofs.optimised.optimised_circuit_of.Goals as goal

pub returns-in-Ok-clause-circuit : goal.returns-in-Ok-clause-circuit
returns-in-Ok-clause-circuit c =
    let n = c.in_ok-first.first in
    let m = c.in-Ok.net in
    let s : IsSmaller n m = subst (λ (x : Netlist). IsSmaller x m) c.in_ok-ordered.ensures c.in-Ok.ensures.smaller in
    let mirrors : AreMirrors n m = record {
      old = c.signals-count.ensures.netlist;
      new = c.signals-signals.ensures.netlist;
      old_tidy = c.in_ok-first.ensures.tidy;
      new_tidy = s.tidy;
      whole = s.set;
      acyclic = s.acyclic;
      laid_out = s.laid_out;
      alike = s.alike;
      mirrors = s.mirrors;
    } in
    mirrored c.circuit_law.ensures c.plan_law.ensures c.scheme_carries_over.ensures c.plan_carries_over.ensures c.args.checked.program c.args.checked.names n m
    c.functions-functions.ensures.checked.formed c.in_ok-first.ensures.circuit mirrors

pub returns-in-Ok-clause-smaller : goal.returns-in-Ok-clause-smaller
returns-in-Ok-clause-smaller c =
    (c.in_ok-first.first, c.in_ok-first.ensures.circuit, subst (λ (x : Netlist). IsSmaller x c.in-Ok.net) c.in_ok-ordered.ensures c.in-Ok.ensures.smaller)

pub returns-in-Ok-clause-whole : goal.returns-in-Ok-clause-whole
returns-in-Ok-clause-whole c =
    (subst (λ (x : Netlist). IsSmaller x c.in-Ok.net) c.in_ok-ordered.ensures c.in-Ok.ensures.smaller).whole c.in_ok-first.ensures.whole

pub returns-in-Ok-clause-in_order : goal.returns-in-Ok-clause-in_order
returns-in-Ok-clause-in_order c = laid_in_order c.in-Ok.net c.in-Ok.ensures.smaller.laid_out
