-- Lists of terms that are alike, one by one.
use Rattle.safl_labels.proofs.Common.{Apart, Likeness, SameTime, SameWord, nodes, nodes_in, shown_term, shown_terms, true≢false}
use Rattle.std.proofs.Common.{◌≡◌, ℕ, zero, suc, ◌+◌, ◌≤◌, List, [], ◌∷◌, ◌++◌, Some, slice_get, take, Bool, true, false, sym, ap, subst, arith, add-one}
use Rattle.safl_calls.specs.Labels.{Labels, Twins, AllTwins, t_nil, t_cons}
use Rattle.safl_term.specs.declared.term.Term.{Term}
use Rattle.safl_term.specs.Terms as plain
use Rattle.safl_labels.specs.Likeness.{IsLike, is_word_of, is_apart_of}

pub node_at : (ts : List Term) (i : ℕ) (x : Term) → slice_get ts i ≡ Some x → nodes (shown_term x) ≤ nodes_in (shown_terms ts)
node_at [] i x e = absurd (cc)
node_at (t ∷ ts) zero x e = let g : t ≡ x = cc in let h = ap (λ (y : Term). nodes (shown_term y)) g in omega (arith, h)
node_at (t ∷ ts) (suc i) x e = let h = node_at ts i x e in omega (arith, h)

module _ (L : Labels) (ls : List Bool) where
  pub twins_at : (t u : plain.Term) (m : Likeness) → IsLike L ls t u m → is_apart_of m ≡ false → Twins L ls t u (is_word_of m)
  twins_at t u Apart h e = absurd (true≢false e)
  twins_at t u SameTime h e = h
  twins_at t u SameWord h e = h

  all_next : (ts us : List Term) (bs : List Bool) (i : ℕ) (x y : Term) (b : Bool) → slice_get ts i ≡ Some x → slice_get us i ≡ Some y
      → AllTwins L ls (shown_terms (take i ts)) (shown_terms (take i us)) bs → Twins L ls (shown_term x) (shown_term y) b
      → AllTwins L ls (shown_terms (take (suc i) ts)) (shown_terms (take (suc i) us)) (bs ++ b ∷ [])
  all_next [] us bs i x y b e f ks k = absurd (cc)
  all_next (t ∷ ts) [] bs i x y b e f ks k = absurd (cc)
  all_next (t ∷ ts) (u ∷ us) [] zero x y b e f t_nil k =
      let g : t ≡ x = cc in
      let h : u ≡ y = cc in
      t_cons (subst (λ (z : Term). Twins L ls (shown_term z) (shown_term u) b) (sym g) (subst (λ (z : Term). Twins L ls (shown_term x) (shown_term z) b) (sym h) k)) t_nil
  all_next (t ∷ ts) (u ∷ us) (c ∷ cs) (suc i) x y b e f (t_cons h hs) k = t_cons h (all_next ts us cs i x y b e f hs k)
  all_next (t ∷ ts) (u ∷ us) [] (suc i) x y b e f ks k = elim ks [ ]
  all_next (t ∷ ts) (u ∷ us) (c ∷ cs) zero x y b e f ks k = elim ks [ ]

  pub all_more : (ts us : List Term) (bs : List Bool) (i : ℕ) (x y : Term) (b : Bool) → slice_get ts i ≡ Some x → slice_get us i ≡ Some y
      → AllTwins L ls (shown_terms (take i ts)) (shown_terms (take i us)) bs → Twins L ls (shown_term x) (shown_term y) b
      → AllTwins L ls (shown_terms (take (i + 1) ts)) (shown_terms (take (i + 1) us)) (bs ++ b ∷ [])
  all_more ts us bs i x y b e f ks k =
      subst (λ (n : ℕ). AllTwins L ls (shown_terms (take n ts)) (shown_terms (take n us)) (bs ++ b ∷ [])) (sym (add-one i)) (all_next ts us bs i x y b e f ks k)
