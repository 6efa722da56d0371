-- Arguments that are read one after the other.
use Rattle.std.proofs.Common.{◌≡◌, ℕ, zero, suc, ◌+◌, ◌<◌, List, [], ◌∷◌, ◌++◌, length, map, get_or, String, string_bytes, Global, Some, slice_get}
use Rattle.std.proofs.Common.{refl, sym, ap, subst, ◌∙◌, arith, inl, inr}
use Rattle.std.proofs.lemmas.List.{length_push}
use Rattle.safl_word.specs.Words.{Word}
use Rattle.safl_word.proofs.Lists.{get_pushed, get_some}
use Rattle.safl_session.specs.Lines.{IsArgument, AreArguments, HaveMisfit}
use Rattle.safl_tool.specs.Lines.{argument_line}

-- so many of them are read
pub record ReadSoFar (widths : List ℕ) (args : List (List ℕ)) (words : List Word) (count : ℕ) : Type 0 where
  pub long : length words ≡ count
  pub each : (k w : ℕ) (t : List ℕ) (v : Word) → slice_get widths k ≡ Some w → slice_get args k ≡ Some t → slice_get words k ≡ Some v → IsArgument w t v

pub read_none : (widths : List ℕ) (args : List (List ℕ)) → ReadSoFar widths args [] 0
read_none widths args = record { long = refl; each = λ k w t v d e f. absurd (cc) }

pub read_more : (widths : List ℕ) (args : List (List ℕ)) (words : List Word) (i w : ℕ) (t : List ℕ) (v : Word) → ReadSoFar widths args words i →
    slice_get widths i ≡ Some w → slice_get args i ≡ Some t → IsArgument w t v → ReadSoFar widths args (words ++ v ∷ []) (i + 1)
read_more widths args words i w t v r d e is = record {
  long = length_push words v ∙ ap (λ k. k + 1) r.long;
  each = λ k x s u f g h. elim (get_pushed words v u k h) [
    | inl q ↦ r.each k x s u f g q
    | inr q ↦
        let here : k ≡ i = q.0 ∙ r.long in
        let a : Some w ≡ Some x = sym d ∙ ap (slice_get widths) (sym here) ∙ f in
        let b : Some t ≡ Some s = sym e ∙ ap (slice_get args) (sym here) ∙ g in
        let wx : w ≡ x = cc in
        let ts : t ≡ s = cc in
        subst (λ y. IsArgument y s u) wx (subst (λ y. IsArgument w y u) ts (subst (λ y. IsArgument w t y) (sym q.1) is))
  ];
}

tail_each : (w : ℕ) (ws : List ℕ) (t : List ℕ) (ts : List (List ℕ)) (v : Word) (vs : List Word) → ReadSoFar (w ∷ ws) (t ∷ ts) (v ∷ vs) (suc (length vs)) → ReadSoFar ws ts vs (length vs)
tail_each w ws t ts v vs r = record { long = refl; each = λ k x s u f g h. r.each (suc k) x s u f g h }

are_read : (widths : List ℕ) (args : List (List ℕ)) (words : List Word) → length args ≡ length widths → length words ≡ length args → ReadSoFar widths
    args words (length words) → AreArguments widths args words
are_read [] [] [] l m r = tt
are_read [] [] (v ∷ vs) l m r = absurd (omega (arith, m))
are_read [] (t ∷ ts) vs l m r = absurd (omega (arith, l))
are_read (w ∷ ws) [] vs l m r = absurd (omega (arith, l))
are_read (w ∷ ws) (t ∷ ts) [] l m r = absurd (omega (arith, m))
are_read (w ∷ ws) (t ∷ ts) (v ∷ vs) l m r = (r.each 0 w t v refl refl refl, are_read ws ts vs (omega (arith, l)) (omega (arith, m)) (tail_each w ws t ts v vs r))

pub all_read : (widths : List ℕ) (args : List (List ℕ)) (words : List Word) (i : ℕ) → length args ≡ length widths → i ≡ length args → ReadSoFar widths args words i → AreArguments widths args words
all_read widths args words i l e r = are_read widths args words l (r.long ∙ e) (subst (λ k. ReadSoFar widths args words k) (sym r.long) r)

pub unread : (widths : List ℕ) (args : List (List ℕ)) (words : List Word) (i w : ℕ) (t : List ℕ) → length args ≡ length widths → ReadSoFar widths args
    words i → slice_get widths i ≡ Some w → slice_get args i ≡ Some t → ((v : Word) → IsArgument w t v → ⊥)
    → (m : HaveMisfit widths args) × (argument_line (i + 1) w ≡ argument_line (m.index + 1) m.width)
unread widths args words i w t l r d e bad = (
  record {
    same = l;
    index = i;
    width = w;
    text = t;
    at_width = d;
    at_text = e;
    bad = bad;
    before = λ k x s h f g. let v = get_some words k (let m = r.long in omega (arith, h, m)) in (v.0, r.each k x s v.0 f g v.1);
  },
  refl,
)

pub text_at : (xs : List (String Global)) (i : ℕ) (x : String Global) (t : List ℕ) → i < length xs → x ≡ get_or xs i x → t ≡ string_bytes x → slice_get (map string_bytes xs) i ≡ Some t
text_at [] i x t h e f = absurd (omega (arith, h))
text_at (y ∷ xs) zero x t h e f = ap (λ z. Some (string_bytes z)) (sym e) ∙ ap Some (sym f)
text_at (y ∷ xs) (suc i) x t h e f = text_at xs i x t (omega (arith, h)) e f

pub texts_long : (xs : List (String Global)) → length (map string_bytes xs) ≡ length xs
texts_long [] = refl
texts_long (x ∷ xs) = ap suc (texts_long xs)
