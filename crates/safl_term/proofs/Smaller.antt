-- A term of a list is smaller than the list.
use Rattle.std.proofs.Common.{◌≡◌, ℕ, zero, suc, ◌+◌, ◌*◌, ◌<◌, List, [], ◌∷◌, Some, slice_get, ap, arith}
use Rattle.safl_term.specs.declared.term.Term.{Term}
use Rattle.safl_term.specs.Tree.{shown_term, shown_terms}
use Rattle.safl_term.specs.Sizes.{nodes, nodes_in}

pub smaller_at : (ts : List Term) (i : ℕ) (x : Term) → slice_get ts i ≡ Some x → 2 * nodes (shown_term x) < 2 * nodes_in (shown_terms ts) + 1
smaller_at [] i x e = absurd (cc)
smaller_at (t ∷ ts) zero x e = let g : t ≡ x = cc in let h = ap (λ (y : Term). nodes (shown_term y)) g in omega (arith, h)
smaller_at (t ∷ ts) (suc i) x e = let h = smaller_at ts i x e in omega (arith, h)
