use Rattle.safl_tool.proofs.Giving.{writes}
use Rattle.safl_tool.proofs.build.optimised_text.Goals as goal

pub returns-clause-gives : goal.returns-clause-gives
unfolding writes
returns-clause-gives c =
    let checked = c.in_ok-checked.checked in
    let n = c.in_ok-net.net in
    let is = c.in_ok-net.ensures in (
      n,
      writes c.args.source.now checked.program checked.names n c.written_reads_law.ensures c.no_shorter_text_law.ensures
          c.in_ok-checked.ensures.accepted is.circuit c.signals-count.ensures.netlist is.whole is.in_order c.in_ok-text_of.field-0.items c.in_ok-text_of.ensures.written,
      record { first = is.smaller.0; circuit = is.smaller.1; wires = is.smaller.2.alike.cells; lean = is.smaller.2.lean },
    )
