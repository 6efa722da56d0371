use Rattle.std.proofs.Common.{◌≡◌, ◌+◌, ◌*◌, ◌++◌, drop}
use Rattle.safl_term.specs.Sizes.{nodes, nodes_in}
use Rattle.safl_term.specs.Tree.{shown_term, shown_terms}
use Rattle.safl_typing.specs.Forms.{sites_of_all}
use Rattle.safl_check.proofs.sites.+sites.Given as goal

abbrev pub decreases-push_sites : goal.decreases-push_sites
decreases-push_sites l = 2 * nodes (shown_term l.term.now)

abbrev pub decreases-push_all : goal.decreases-push_all
decreases-push_all l = 2 * nodes_in (shown_terms l.terms.now) + 1

-- those of the terms that are left are still to be added
abbrev pub invariant-push_all-loop-term : goal.invariant-push_all-loop-term
invariant-push_all-loop-term l = l.sites.items ++ sites_of_all l.caller (shown_terms (drop l.term-index l.terms)) ≡ l.initial.sites.items ++ sites_of_all l.caller (shown_terms l.terms)
