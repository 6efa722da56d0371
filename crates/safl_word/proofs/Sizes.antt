-- Sized numbers and symbols: where they end, and that their parts are known from the text.
use Rattle.safl_word.proofs.Common.{EndsRun, IsNumeral, Sym, and_parts, is_digit, list_all, same_Some}
use Rattle.std.proofs.Common.{◌≡◌, ℕ, ◌≤◌, List, [], ◌∷◌, ◌++◌, length, true, refl, sym, ◌∙◌, ap, subst, arith, length-append}
use Rattle.safl_word.specs.Tokens.{sym_text, base_of, IsNameLike, SizedParts, sized_text, IsSizedLike, name_like, number_like, sized_like, symbol_like, IsLongest}
use Rattle.safl_word.proofs.Runs.{run_short, same_run}
use Rattle.safl_word.proofs.Lexemes.{same_head, same_tail, sym_head, sized_head, sized_parts, else_name, else_digit, name_digit}

-- the same text has the same width, the same letter, and goes on the same way
pub record SameSize (s t : SizedParts) (v rest : List ℕ) : Type 0 where
  pub width : s.width ≡ t.width
  pub letter : s.letter ≡ t.letter
  pub base : s.base ≡ t.base
  pub behind : s.digits ++ v ≡ t.digits ++ rest

pub same_size : (s t : SizedParts) (v rest : List ℕ) → IsSizedLike s → IsSizedLike t → sized_text s ++ v ≡ sized_text t ++ rest → SameSize s t v rest
same_size s t v rest h k e =
    let e' : s.width ++ (39 ∷ s.letter ∷ (s.digits ++ v)) ≡ t.width ++ (39 ∷ t.letter ∷ (t.digits ++ rest)) = sym (sized_parts s v) ∙ e ∙ sized_parts t rest in
    let r = same_run (is_digit 10) s.width _ t.width _ h.width.digits k.width.digits refl refl e' in
    let b = same_tail _ _ _ _ r.1 in
    let l : s.letter ≡ t.letter = same_head _ _ _ _ b in
    record {
      width = r.0;
      letter = l;
      base = same_Some s.base t.base (sym h.based ∙ ap base_of l ∙ k.based);
      behind = same_tail _ _ _ _ b;
    }

front_of_sized : (s : SizedParts) (n : ℕ) → n ≤ length s.width → n ≤ length (sized_text s)
front_of_sized s n h = omega (arith, length-append s.width (39 ∷ s.letter ∷ s.digits))

longer_digits : (s t : SizedParts) → s.width ≡ t.width → length s.digits ≤ length t.digits → length (sized_text s) ≤ length (sized_text t)
longer_digits s t e h = omega (arith, length-append s.width (39 ∷ s.letter ∷ s.digits), length-append t.width (39 ∷ t.letter ∷ t.digits), ap length e)

-- a sized number runs to the first byte that is no digit of its base
pub sized_longest : (s : SizedParts) (rest : List ℕ) → IsSizedLike s → EndsRun (is_digit s.base) rest → IsLongest (sized_text s) rest
sized_longest s rest h f u v e (name_like m) = begins s rest h u v e m
  where
    begins : (s : SizedParts) (rest : List ℕ) → IsSizedLike s → (u v : List ℕ) → u ++ v ≡ sized_text s ++ rest → IsNameLike u → length u ≤ length (sized_text s)
    begins s rest h [] v e m = absurd m
    begins s rest h (c ∷ u) v e m = name_digit c m.0 (sized_head s rest c (u ++ v) h (sym e))
sized_longest s rest h f u v e (number_like m) =
    front_of_sized s (length u) (run_short (is_digit 10) u v s.width (39 ∷ s.letter ∷ (s.digits ++ rest)) m.digits refl (e ∙ sized_parts s rest))
sized_longest s rest h f u v e (sized_like t q m) =
    let k = same_size t s v rest m h (subst (λ k. k ++ v ≡ sized_text s ++ rest) q e) in
    let d : list_all (is_digit s.base) t.digits ≡ true = subst (λ b. list_all (is_digit b) t.digits ≡ true) k.base m.digits.digits in
    let l = longer_digits t s k.width (run_short (is_digit s.base) t.digits v s.digits rest d f k.behind) in
    subst (λ x. length x ≤ length (sized_text s)) (sym q) l
sized_longest s rest h f u v e (symbol_like t q) =
    starts t v s rest h (subst (λ k. k ++ v ≡ sized_text s ++ rest) q e)
  where
    whole : (t : Sym) (v : List ℕ) (s : SizedParts) (w rest : List ℕ) → s.width ≡ w → IsSizedLike s → sym_text t ++ v ≡ sized_text s ++ rest → length u ≤ length (sized_text s)
    whole t v s [] rest q h e = absurd (omega (arith, h.width.some, ap length q))
    whole t v s (c ∷ w) rest q h e =
        let k : sym_text t ++ v ≡ c ∷ (w ++ (39 ∷ s.letter ∷ (s.digits ++ rest))) = e ∙ sized_parts s rest ∙ ap (λ x. x ++ (39 ∷ s.letter ∷ (s.digits ++ rest))) q in
        let d : list_all (is_digit 10) (c ∷ w) ≡ true = subst (λ x. list_all (is_digit 10) x ≡ true) q h.width.digits in
        else_digit c (sym_head t v c _ k) (and_parts _ _ d).0

    starts : (t : Sym) (v : List ℕ) (s : SizedParts) (rest : List ℕ) → IsSizedLike s → sym_text t ++ v ≡ sized_text s ++ rest → length u ≤ length (sized_text s)
    starts t v s rest h e = whole t v s s.width rest refl h e

-- a symbol ends where no longer symbol begins
pub symbol_longest : (s : Sym) (rest : List ℕ) → ((t : Sym) (v : List ℕ) → sym_text t ++ v ≡ sym_text s ++ rest → length (sym_text t) ≤ length (sym_text s)) → IsLongest (sym_text s) rest
symbol_longest s rest f u v e (name_like m) = names u m e
  where
    names : (u : List ℕ) → IsNameLike u → u ++ v ≡ sym_text s ++ rest → length u ≤ length (sym_text s)
    names [] m e = absurd m
    names (c ∷ u) m e = else_name c (sym_head s rest c (u ++ v) (sym e)) m.0
symbol_longest s rest f u v e (number_like m) = numbers u m e
  where
    numbers : (u : List ℕ) → IsNumeral 10 u → u ++ v ≡ sym_text s ++ rest → length u ≤ length (sym_text s)
    numbers [] m e = omega arith
    numbers (c ∷ u) m e = else_digit c (sym_head s rest c (u ++ v) (sym e)) (and_parts _ _ m.digits).0
symbol_longest s rest f u v e (sized_like t q m) = sizes t.width refl
  where
    sizes : (w : List ℕ) → t.width ≡ w → length u ≤ length (sym_text s)
    sizes [] k = absurd (omega (arith, m.width.some, ap length k))
    sizes (c ∷ w) k =
        let j : sym_text s ++ rest ≡ c ∷ (w ++ (39 ∷ t.letter ∷ (t.digits ++ v))) =
        sym e ∙ ap (λ x. x ++ v) q ∙ sized_parts t v ∙ ap (λ x. x ++ (39 ∷ t.letter ∷ (t.digits ++ v))) k in
        let d : list_all (is_digit 10) (c ∷ w) ≡ true = subst (λ x. list_all (is_digit 10) x ≡ true) k m.width.digits in
        else_digit c (sym_head s rest c _ j) (and_parts _ _ d).0
symbol_longest s rest f u v e (symbol_like t q) =
    subst (λ x. length x ≤ length (sym_text s)) (sym q) (f t v (subst (λ k. k ++ v ≡ sym_text s ++ rest) q e))
