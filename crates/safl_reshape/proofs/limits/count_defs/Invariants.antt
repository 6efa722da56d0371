use Rattle.safl_reshape.proofs.Common.{drop, heads, nodes_of, shown_definitions, site_total}
use Rattle.safl_reshape.proofs.Counted.{Left}
use Rattle.safl_reshape.proofs.limits.count_defs.Given as goal

abbrev pub invariant-loop-number : goal.invariant-loop-number
invariant-loop-number l = Left (record { sites = 0; nodes = 0 }) l.counts
    (site_total (heads (shown_definitions l.defs)) l.number l.unit (shown_definitions (drop l.number l.defs)))
    (nodes_of (shown_definitions (drop l.number l.defs))) (site_total (heads (shown_definitions l.defs)) 0 0 (shown_definitions l.defs))
    (nodes_of (shown_definitions l.defs))
