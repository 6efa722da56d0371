-- Sites are asked for one after the other.
use Rattle.safl_evaluate.proofs.Common.{Asks, Wants, Word}
use Rattle.std.proofs.Common.{◌≡◌, ℕ, List, Some, None, length, get_or, slice_set, min, max, refl, ap, ◌∙◌, arith}
use Rattle.std.proofs.lemmas.List.{get_or-set_other, length-set}

pub asks_none : (v : Wants) → Asks v v
asks_none v = record { long = refl; first = omega arith; last = omega arith; others = λ k no. refl }

pub asks_both : {u v w : Wants} → Asks u v → Asks v w → Asks u w
asks_both a b = record {
  long = b.long ∙ a.long;
  first = omega (arith, a.first, b.first);
  last = omega (arith, a.last, b.last);
  others = λ k no. b.others k no ∙ a.others k (λ is. no (omega (arith, is.0, b.first), omega (arith, is.1, b.last)));
}

-- one more site
pub asks_one : {v w : Wants} (k : ℕ) (ws : List Word) → w.each.items ≡ slice_set v.each.items k (Some ws) → w.first ≡ min v.first k → w.last ≡ max v.last k → Asks v w
asks_one {v} {w} k ws each first last = record {
  long = ap length each ∙ length-set v.each.items k (Some ws);
  first = omega (arith, first);
  last = omega (arith, last);
  others = λ j no. ap (λ l. get_or l j None) each ∙ get_or-set_other v.each.items k j (Some ws) None (λ q. no (omega (arith, first, q), omega (arith, last, q)));
}
