use Rattle.safl_unit.proofs.Common.{map, own_ties, ◌++◌, ◌≡◌}
use Rattle.safl_unit.specs.Ties.{sig_of, ties, site_ties}
use Rattle.safl_unit.proofs.finish.register_sources.Given as goal

abbrev pub invariant-loop-k : goal.invariant-loop-k
invariant-loop-k l = l.all.items ≡ map sig_of (own_ties l.p.program l.p.names l.next) ++ map sig_of
    (ties (site_ties l.p.program l.p.choice l.next.sites.items) l.k)
