use Rattle.safl_unit.proofs.Common.{length, map, open_register, ◌≡◌}
use Rattle.safl_circuit.specs.Layout.{lines, site_lines}
use Rattle.safl_unit.specs.Declaring.{with_signals, SitesPinned}
use Rattle.safl_unit.proofs.declare.add_sites.Given as goal

abbrev pub invariant-loop-k : goal.invariant-loop-k
invariant-loop-k l = record {
  net : l.net ≡ with_signals l.initial.net (map open_register (lines (site_lines l.p.program l.p.choice) l.k));
  pinned : SitesPinned l.p.program l.p.choice (length l.initial.net.signals) l.k l.units l.sites.items;
}
