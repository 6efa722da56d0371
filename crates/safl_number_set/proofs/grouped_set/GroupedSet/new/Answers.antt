use Rattle.safl_number_set.proofs.Common.{Grouped, List, ap, arith, length, replicate, sym, ℕ, ◌+◌, ◌/◌, ◌∙◌, ◌≡◌}
use Rattle.safl_number_set.proofs.FreshGroups.{fresh_tallies}
use Rattle.safl_number_set.proofs.grouped_set.GroupedSet.new.Goals as goal

abbrev zeros_of : ℕ → List ℕ
zeros_of n = replicate n 0

pub invariant_of-result : goal.invariant_of-result
invariant_of-result c =
    let groups = c.in_ok-groups.groups in
    let same_group : c.in_ok-groups.groups.group.items ≡ c.args.group.items = ap (λ (a : Grouped). a.group) c.in_ok-groups.ensures.shown in
    let within = ap (λ (a : Grouped). a.within) c.in_ok-groups.ensures.shown ∙ ap (λ (l : List ℕ). zeros_of (length l)) (sym same_group) in
    let numbers : c.len.result ≡ length c.in_ok-groups.groups.group.items =
    omega (arith, c.len.ensures, c.args.group.ok.0, ap (λ (l : List ℕ). length l) same_group) in (
      c.in_ok-groups.ensures.grouped,
      fresh_tallies groups within c.in_ok-tally.tally (c.in_ok-tally.ensures.blocks
          ∙ ap (λ n. zeros_of (n / 32 + 1)) numbers) c.in_ok-tally.ensures.summed,
    )
