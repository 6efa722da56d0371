use Rattle.std.proofs.Common.{◌≡◌, ℕ, List, get_or, slice_set, sym, ap, subst}
use Rattle.std.specs.Int.{from_bool}
use Rattle.safl_number_set.specs.Groups.{Tallies, weighed}
use Rattle.safl_number_set.proofs.CountedGroups.{turned_grouped}
use Rattle.safl_number_set.proofs.grouped_set.GroupedSet.turn.Goals as goal

pub invariant_of-self : goal.invariant_of-self
invariant_of-self c =
    let n = c.self.inside in
    let s = n.groups in
    let h = c.self.invariant.0 in
    let g = c.args.g in
    let b = c.args.is_open in
    let opened_is : slice_set s.opened.items g c.bit-2.result ≡ slice_set s.opened.items g (from_bool b) =
    ap (λ x. slice_set s.opened.items g x) c.bit-2.ensures in
    let tallies = subst (λ (o : List ℕ). Tallies (weighed (λ i. get_or o i 0) s.group.items s.within.items) c.count.new.tally)
    (sym opened_is) c.count.ensures in
    (turned_grouped s h g b _ opened_is, tallies)
