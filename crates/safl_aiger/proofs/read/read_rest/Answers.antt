use Rattle.safl_aiger.proofs.Common.{Fails, ap, arith, subst, sym, ◌+◌}
use Rattle.safl_aiger.specs.Reads.{HasAigFault, counts, total, line_kinds}
use Rattle.safl_aiger.specs.declared.sections.Stop.{Stop}
use Rattle.safl_aiger.proofs.Concluding.{body_fault, stop_small}
use Rattle.safl_aiger.proofs.read.read_rest.Goals as goal

pub overflow_add-result : goal.overflow_add-result
overflow_add-result c =
    let h = c.args.h in
    let stops = subst (λ e. Fails c.args.text.now (total (counts h)) c.args.at (line_kinds (counts h)) e) c.in-Err-Stopped.field-0-is c.in-Err-Stopped.ensures.err in
    let small = stop_small c.args.text.now (total (counts h)) c.args.at (counts h) _ _ stops in
    let place = ap (λ (x : Stop). x.place) c.in-Err-Stopped.s-is in
    omega (arith, small, place, c.requires.sum, c.requires.outputs)

pub returns-in-Err-Stopped-clause-fault : goal.returns-in-Err-Stopped-clause-fault
returns-in-Err-Stopped-clause-fault c =
    let h = c.args.h in
    let stops = subst (λ e. Fails c.args.text.now (total (counts h)) c.args.at (line_kinds (counts h)) e) c.in-Err-Stopped.field-0-is c.in-Err-Stopped.ensures.err in
    subst (λ (x : Stop). HasAigFault c.args.text.now x.rule (2 + x.place)) (sym c.in-Err-Stopped.s-is)
    (body_fault c.args.text.now c.args.at (counts h) c.in-Err-Stopped.s.rule c.in-Err-Stopped.s.place c.requires.begins stops)
