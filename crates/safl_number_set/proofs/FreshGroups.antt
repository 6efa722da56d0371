-- Sets that nothing was put into.
use Rattle.safl_number_set.proofs.Common.{AreBelow, AreLinked, AreSummed, AreSums, Groups, Tally, length-replicate, part, sum}
use Rattle.std.proofs.Common.{◌≡◌, ℕ, zero, suc, ◌+◌, ◌*◌, ◌/◌, ◌≤◌, List, [], ◌∷◌, length, get_or, replicate, refl, sym, ap, ◌∙◌, subst, arith}
use Rattle.safl_number_set.specs.Groups.{AreGrouped, Tallies, weighed, counted, shown_groups, only}
use Rattle.safl_number_set.proofs.SumsOfParts.{zeros_part, zero_sums}

abbrev all_of : ℕ → ℕ → List ℕ
all_of n x = replicate n x

abbrev at_place : List ℕ → ℕ → ℕ
at_place l k = get_or l k 0

all_long : (n x : ℕ) → length (all_of n x) ≡ n
all_long n x = length-replicate n x

zero_at : (n k : ℕ) → at_place (all_of n 0) k ≡ 0
zero_at zero k = refl
zero_at (suc n) zero = refl
zero_at (suc n) (suc k) = zero_at n k

few_at : (n x k : ℕ) → x ≤ 1 → at_place (all_of n x) k ≤ 1
few_at zero x k le = omega arith
few_at (suc n) x zero le = le
few_at (suc n) x (suc k) le = few_at n x k le

weighed_zeros : (w : ℕ → ℕ) (gs : List ℕ) → weighed w gs (all_of (length gs) 0) ≡ all_of (length gs) 0
unfolding weighed
weighed_zeros w [] = refl
weighed_zeros w (g ∷ gs) = let z : 0 * w g ≡ 0 = omega arith in ap (λ x. x ∷ weighed w gs (all_of (length gs) 0)) z
    ∙ ap (λ (l : List ℕ). 0 ∷ l) (weighed_zeros w gs)

module _ (s : Groups) (within : s.within.items ≡ replicate (length s.group.items) 0) where
  pub fresh_grouped : (count : ℕ) → length s.group.items ≤ 5000 → AreBelow count s.group.items → s.opened.items ≡ replicate count 1
      → length s.links.heads.items ≡ count → AreLinked s.group.items s.links
      → s.parts.items ≡ replicate (length s.group.items) 0 → AreGrouped s
  fresh_grouped count few below opened heads linked parts = record {
    few = few;
    below = λ k lt. let a = below k lt in omega (arith, a, opened_long);
    long = ap (λ (l : List ℕ). length l) within ∙ all_long (length s.group.items) 0;
    bits = λ k. let a : get_or s.within.items k 0 ≡ at_place (all_of (length s.group.items) 0) k = ap (λ (l : List ℕ). get_or l k 0) within in
        let b = few_at (length s.group.items) 0 k (omega arith) in omega (arith, a, b);
    opens = λ g. let a : get_or s.opened.items g 0 ≡ at_place (all_of count 1) g = ap (λ (l : List ℕ). get_or l g 0) opened in
        let b = few_at count 1 g (omega arith) in omega (arith, a, b);
    heads = omega (arith, heads, opened_long);
    linked = linked;
    parts_all = ap (λ (l : List ℕ). length l) parts ∙ all_long (length s.group.items) 0;
    parts = λ k lt.
        ap (λ (l : List ℕ). get_or l (get_or s.links.ends.items k 0) 0) parts
        ∙ (zero_at (length s.group.items) (get_or s.links.ends.items k 0)
        ∙ sym (ap (λ (l : List ℕ). sum (part (k / 32) (weighed (only (get_or s.group.items k 0)) s.group.items l))) within
        ∙ (ap (λ (l : List ℕ). sum (part (k / 32) l)) (weighed_zeros (only (get_or s.group.items k 0)) s.group.items)
        ∙ zeros_part (length s.group.items) (32 * (k / 32)) 32)));
  }
    where
      opened_long : length s.opened.items ≡ count
      opened_long = ap (λ (l : List ℕ). length l) opened ∙ all_long count 1

  pub fresh_tallies : (t : Tally) → t.blocks.items ≡ replicate (length s.group.items / 32 + 1) 0 → AreSummed t → Tallies (counted (shown_groups s)) t
  fresh_tallies t blocks summed = record {
    blocks = subst (λ (l : List ℕ). AreSums l t.blocks.items) (sym zeros)
        (subst (λ (l : List ℕ). AreSums (replicate (length s.group.items) 0) l) (sym blocks)
        (zero_sums (length s.group.items) (length s.group.items / 32 + 1) (omega arith)));
    summed = summed;
  }
    where
      zeros : counted (shown_groups s) ≡ all_of (length s.group.items) 0
      zeros = ap (λ (l : List ℕ). weighed (λ g. get_or s.opened.items g 0) s.group.items l) within
          ∙ weighed_zeros (λ g. get_or s.opened.items g 0) s.group.items
