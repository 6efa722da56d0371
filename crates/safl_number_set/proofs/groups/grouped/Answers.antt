use Rattle.safl_number_set.proofs.Common.{AreLinked, List, ap, arith, length, replicate, subst, ℕ, ◌∙◌, ◌≡◌}
use Rattle.safl_number_set.proofs.FreshGroups.{fresh_grouped}
use Rattle.safl_number_set.proofs.groups.grouped.Goals as goal

abbrev zeros_of : ℕ → List ℕ
zeros_of n = replicate n 0

pub returns-clause-grouped : goal.returns-clause-grouped
returns-clause-grouped c =
    let numbers : c.len-numbers.result ≡ length c.args.group.items = omega (arith, c.len-numbers.ensures, c.args.group.ok.0) in
    let within = c.in_ok-within.ensures.items_if_clones_equal (λ y e. e) ∙ ap zeros_of numbers in
    let opened = c.in_ok-opened.ensures.items_if_clones_equal (λ y e. e) in
    let parts = c.in_ok-parts.ensures.items_if_clones_equal (λ y e. e) ∙ ap zeros_of numbers in
    let linked = subst (λ (l : List ℕ). AreLinked l c.in_ok-links.links) c.deref.ensures.value c.in_ok-links.ensures.linked in
    fresh_grouped _ within c.args.count c.requires.few c.requires.below opened c.in_ok-links.ensures.count linked parts
