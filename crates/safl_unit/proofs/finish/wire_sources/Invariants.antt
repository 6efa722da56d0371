use Rattle.std.proofs.Common.{◌≡◌, ◌++◌, map}
use Rattle.safl_unit.specs.Ties.{sig_of, ties, body_ties, call_ties}
use Rattle.safl_unit.proofs.finish.wire_sources.Given as goal

abbrev pub invariant-loop-k : goal.invariant-loop-k
invariant-loop-k l =
    l.all.items ≡ map sig_of (ties (body_ties l.p.names l.controls) l.p.program.functions) ++ map sig_of
    (ties (call_ties l.p.program l.p.choice l.first l.controls) l.k)
