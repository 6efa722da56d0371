use Rattle.safl_number_set.proofs.Common.{IsCounted, List, arith, replicate, subst, sym, ℕ, ◌+◌, ◌/◌, ◌≡◌}
use Rattle.safl_number_set.proofs.SumsOfParts.{none_counted}
use Rattle.safl_number_set.proofs.number_set.NumberSet.new.Goals as goal

pub invariant_of-result : goal.invariant_of-result
invariant_of-result c =
    let n = c.args.bound in
    let ones : c.in_ok-ones.ones.items ≡ replicate n 0 = c.in_ok-ones.ensures.items_if_clones_equal (λ y e. e) in
    let blocks : c.in_ok-blocks.blocks.items ≡ replicate (n / 32 + 1) 0 = c.in_ok-blocks.ensures.items_if_clones_equal (λ y e. e) in
    let tops : c.in_ok-tops.tops.items ≡ replicate ((n / 32 + 1) / 32 + 1) 0 = c.in_ok-tops.ensures.items_if_clones_equal (λ y e. e) in
    subst (λ (l : List ℕ). IsCounted l c.in_ok-blocks.blocks.items c.in_ok-tops.tops.items 0) (sym ones)
    (subst (λ (l : List ℕ). IsCounted (replicate n 0) l c.in_ok-tops.tops.items 0) (sym blocks)
    (subst (λ (l : List ℕ). IsCounted (replicate n 0) (replicate (n / 32 + 1) 0) l 0) (sym tops)
    (none_counted n (n / 32 + 1) ((n / 32 + 1) / 32 + 1) c.requires (omega arith) (omega arith))))

pub returns : goal.returns
returns c = c.in_ok-ones.ensures.items_if_clones_equal (λ y e. e)
