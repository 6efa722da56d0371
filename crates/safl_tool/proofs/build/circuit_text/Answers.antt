use Rattle.safl_tool.proofs.Giving.{writes}
use Rattle.safl_tool.proofs.build.circuit_text.Goals as goal

pub returns-clause-gives : goal.returns-clause-gives
returns-clause-gives c =
    let is = c.in_ok-net.ensures.compiled in (
      c.in_ok-net.net,
      writes c.args.source.now is.program is.names c.in_ok-net.net c.written_reads_law.ensures c.no_shorter_text_law.ensures
          is.source_of is.circuit is.made is.whole is.in_order c.in_ok-text_of.field-0.items c.in_ok-text_of.ensures.written,
    )
