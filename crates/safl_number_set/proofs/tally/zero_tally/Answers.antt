use Rattle.safl_number_set.proofs.Common.{AreSums, length-replicate, sum}
use Rattle.std.proofs.Common.{◌≡◌, ℕ, ◌+◌, ◌/◌, List, length, replicate, sym, ap, ◌∙◌, subst, arith}
use Rattle.safl_number_set.proofs.SumsOfParts.{zeros, zero_sums}
use Rattle.safl_number_set.proofs.tally.zero_tally.Goals as goal

abbrev zeros_of : ℕ → List ℕ
zeros_of n = replicate n 0

pub returns-clause-summed : goal.returns-clause-summed
returns-clause-summed c =
    let n = c.args.bound in
    let blocks : c.in_ok-blocks.blocks.items ≡ replicate (n / 32 + 1) 0 = c.in_ok-blocks.ensures.items_if_clones_equal (λ y e. e) in
    let tops : c.in_ok-tops.tops.items ≡ replicate ((n / 32 + 1) / 32 + 1) 0 = c.in_ok-tops.ensures.items_if_clones_equal (λ y e. e) in
    let long : length (zeros_of (n / 32 + 1)) ≡ n / 32 + 1 = length-replicate (n / 32 + 1) 0 in
    record {
      few = let a : length c.in_ok-blocks.blocks.items ≡ length (zeros_of (n / 32 + 1)) = ap (λ (l : List ℕ). length l) blocks in
          omega (arith, a, long, c.requires);
      tops = subst (λ (l : List ℕ). AreSums l c.in_ok-tops.tops.items) (sym blocks)
          (subst (λ (l : List ℕ). AreSums (replicate (n / 32 + 1) 0) l) (sym tops) (zero_sums (n / 32 + 1) ((n / 32 + 1) / 32 + 1) (omega arith)));
      total = sym (ap (λ (l : List ℕ). sum l) blocks ∙ zeros (n / 32 + 1));
    }
