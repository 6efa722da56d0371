use Rattle.safl_tool.proofs.Common.{argument_widths, err_from_is_err_and, map, string_bytes}
use Rattle.safl_tool.proofs.Giving.{outcome_given}
use Rattle.safl_tool.proofs.Simulated.{measures, arguments_refused, source_refused}
use Rattle.safl_tool.proofs.generated.measure.Goals as goal

pub returns-in_err-planned-clause-refused : goal.returns-in_err-planned-clause-refused
returns-in_err-planned-clause-refused c =
    let p = err_from_is_err_and c.from_residual.result c.from_residual.ensures.1 in
    rw (p.1, p.2) (source_refused c.args.name.now c.args.source.now (map string_bytes c.args.args.now) c.in_err-planned.field-0.0 c.in_err-planned.ensures.refused)

pub returns-in_err-done-clause-refused : goal.returns-in_err-done-clause-refused
returns-in_err-done-clause-refused c =
    let p = err_from_is_err_and c.from_residual-in_err-done.result c.from_residual-in_err-done.ensures.1 in
    let q = c.in_ok-planned.planned.checked in
    rw (p.1, p.2)
    (arguments_refused c.args.name.now c.args.source.now q.program q.names (map string_bytes c.args.args.now) (argument_widths c.in_ok-net.net.signals)
    c.in_ok-net.ensures.params c.in_ok-planned.ensures.planned c.in_err-done.field-0.0 c.in_err-done.ensures.refused)

pub returns-clause-gives : goal.returns-clause-gives
returns-clause-gives c =
    let p = c.in_ok-planned.planned.checked in
    let n = c.in_ok-net.net in
    let head = c.in_ok-text.text.items in
    let done = c.in_ok-done.done in (
      head,
      done,
      measures c.args.source.now p n c.in_ok-planned.ensures.planned c.in_ok-net.ensures.circuit c.in_ok-net.ensures.params (map string_bytes c.args.args.now) c.args.limit done
          c.in_ok-done.ensures.answer head c.in_ok-text.ensures,
      outcome_given head c.args.limit done c.in_ok-comes.comes c.push_outcome.new.text.items c.in_ok-comes.ensures.comes c.in_ok-comes.ensures.lines,
    )
