use Rattle.safl_probe.proofs.Traced.{calls_make_traces}
use Rattle.safl_probe.proofs.laws.trace_law.Goals as goal

pub returns : goal.returns
returns c = calls_make_traces
