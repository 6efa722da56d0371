-- A text is a token of at most one kind.
use Rattle.safl_word.proofs.Common.{IsNumeral, Sym, TokenKind, and_parts, is_digit, value}
use Rattle.std.proofs.Common.{◌≡◌, ℕ, ◌⊎◌, inl, inr, List, [], ◌∷◌, length, refl, sym, ◌∙◌, ap, subst, arith}
use Rattle.std.proofs.lemmas.List.{append-nil}
use Rattle.safl_word.specs.Tokens.{sym_text, IsNameLike, SizedParts, sized_text, IsSizedLike, IsLexeme, name_like, number_like, sized_like}
use Rattle.safl_word.specs.Tokens.{symbol_like, FitsNumeral, IsSized, IsToken}
use Rattle.safl_word.specs.Breaks.{Passes, IsTooLong, long_name, long_number, long_sized}
use Rattle.safl_word.specs.declared.token.TokenKind.TheVariants as kinds
use Rattle.safl_word.proofs.Runs.{same_run}
use Rattle.safl_word.proofs.Lexemes.{sym_head, sized_head, else_name, else_digit, name_digit}
use Rattle.safl_word.proofs.Sizes.{same_size}
use Rattle.safl_word.proofs.Finds.{same_key, same_sym, key_like, key_short, sym_some}

-- a token has the shape of one
pub token_like : (k : TokenKind) (w : List ℕ) → IsToken k w → IsLexeme w
token_like kinds.Name w h = name_like h.like
token_like (kinds.Num n) w h = number_like h.0.numeral
token_like (kinds.Sized m n) w (s, h) = sized_like s h.joined h.like
token_like (kinds.Key k) w h = name_like (subst IsNameLike (sym h) (key_like k))
token_like (kinds.Sym s) w h = symbol_like s h

pub name_number : (w : List ℕ) {A : Type 0} → IsNameLike w → IsNumeral 10 w → A
name_number [] n h = absurd n
name_number (c ∷ w) n h = name_digit c n.0 (and_parts _ _ h.digits).0

pub name_sized : (w : List ℕ) (s : SizedParts) {A : Type 0} → IsNameLike w → w ≡ sized_text s → IsSizedLike s → A
name_sized [] s n e h = absurd n
name_sized (c ∷ w) s n e h = name_digit c n.0 (sized_head s [] c w h (append-nil (sized_text s) ∙ sym e))

pub name_symbol : (w : List ℕ) (s : Sym) {A : Type 0} → IsNameLike w → w ≡ sym_text s → A
name_symbol [] s n e = absurd n
name_symbol (c ∷ w) s n e = else_name c (sym_head s [] c w (append-nil (sym_text s) ∙ sym e)) n.0

pub number_symbol : (w : List ℕ) (s : Sym) {A : Type 0} → IsNumeral 10 w → w ≡ sym_text s → A
number_symbol [] s n e = absurd (omega (arith, n.some))
number_symbol (c ∷ w) s n e = else_digit c (sym_head s [] c w (append-nil (sym_text s) ∙ sym e)) (and_parts _ _ n.digits).0

pub sized_symbol : (w : List ℕ) (t : SizedParts) (s : Sym) {A : Type 0} → w ≡ sized_text t → IsSizedLike t → w ≡ sym_text s → A
sized_symbol [] t s q h e = absurd (omega (arith, sym_some s, ap length e))
sized_symbol (c ∷ w) t s q h e = else_digit c (sym_head s [] c w (append-nil (sym_text s) ∙ sym e)) (sized_head t [] c w h (append-nil (sized_text t) ∙ sym q))

-- a numeral holds no `'`
pub number_sized : (w : List ℕ) (s : SizedParts) {A : Type 0} → IsNumeral 10 w → w ≡ sized_text s → IsSizedLike s → A
number_sized w s n e h =
    let r = same_run (is_digit 10) w [] s.width (39 ∷ s.letter ∷ s.digits) n.digits h.width.digits tt refl (append-nil w ∙ e) in
    let k = r.1 in cc

sizes_agree : (m n o p : ℕ) (w : List ℕ) (s t : SizedParts) → IsSized m n w s → IsSized o p w t → kinds.Sized m n ≡ kinds.Sized o p
sizes_agree m n o p w s t a b =
    let k = same_size s t [] [] a.like b.like (append-nil (sized_text s) ∙ sym a.joined ∙ b.joined ∙ sym (append-nil (sized_text t))) in
    let d : s.digits ≡ t.digits = sym (append-nil s.digits) ∙ k.behind ∙ append-nil t.digits in
    let x : m ≡ o = a.width_is ∙ ap (value 10) k.width ∙ sym b.width_is in
    let y : n ≡ p = a.value_is ∙ ap (λ c. value c s.digits) k.base ∙ ap (value t.base) d ∙ sym b.value_is in
    λ i. kinds.Sized (x i) (y i)

pub kinds_agree : (j k : TokenKind) (w : List ℕ) → IsToken j w → IsToken k w → j ≡ k
kinds_agree kinds.Name kinds.Name w a b = refl
kinds_agree kinds.Name (kinds.Num n) w a b = name_number w a.like b.0.numeral
kinds_agree kinds.Name (kinds.Sized m n) w a (s, b) = name_sized w s a.like b.joined b.like
kinds_agree kinds.Name (kinds.Key k) w a b = absurd (a.free k b)
kinds_agree kinds.Name (kinds.Sym s) w a b = name_symbol w s a.like b
kinds_agree (kinds.Num n) kinds.Name w a b = name_number w b.like a.0.numeral
kinds_agree (kinds.Num n) (kinds.Num m) w a b = ap kinds.Num (a.1 ∙ sym b.1)
kinds_agree (kinds.Num n) (kinds.Sized m o) w a (s, b) = number_sized w s a.0.numeral b.joined b.like
kinds_agree (kinds.Num n) (kinds.Key k) w a b = name_number w (subst IsNameLike (sym b) (key_like k)) a.0.numeral
kinds_agree (kinds.Num n) (kinds.Sym s) w a b = number_symbol w s a.0.numeral b
kinds_agree (kinds.Sized m n) kinds.Name w (s, a) b = name_sized w s b.like a.joined a.like
kinds_agree (kinds.Sized m n) (kinds.Num o) w (s, a) b = number_sized w s b.0.numeral a.joined a.like
kinds_agree (kinds.Sized m n) (kinds.Sized o p) w (s, a) (t, b) = sizes_agree m n o p w s t a b
kinds_agree (kinds.Sized m n) (kinds.Key k) w (s, a) b = name_sized w s (subst IsNameLike (sym b) (key_like k)) a.joined a.like
kinds_agree (kinds.Sized m n) (kinds.Sym t) w (s, a) b = sized_symbol w s t a.joined a.like b
kinds_agree (kinds.Key k) kinds.Name w a b = absurd (b.free k a)
kinds_agree (kinds.Key k) (kinds.Num n) w a b = name_number w (subst IsNameLike (sym a) (key_like k)) b.0.numeral
kinds_agree (kinds.Key k) (kinds.Sized m n) w a (s, b) = name_sized w s (subst IsNameLike (sym a) (key_like k)) b.joined b.like
kinds_agree (kinds.Key k) (kinds.Key l) w a b = ap kinds.Key (same_key k l (sym a ∙ b))
kinds_agree (kinds.Key k) (kinds.Sym s) w a b = name_symbol w s (subst IsNameLike (sym a) (key_like k)) b
kinds_agree (kinds.Sym s) kinds.Name w a b = name_symbol w s b.like a
kinds_agree (kinds.Sym s) (kinds.Num n) w a b = number_symbol w s b.0.numeral a
kinds_agree (kinds.Sym s) (kinds.Sized m n) w a (t, b) = sized_symbol w t s b.joined b.like a
kinds_agree (kinds.Sym s) (kinds.Key k) w a b = name_symbol w s (subst IsNameLike (sym b) (key_like k)) a
kinds_agree (kinds.Sym s) (kinds.Sym t) w a b = ap kinds.Sym (same_sym s t (sym a ∙ b))

fits_passes : (base : ℕ) (w : List ℕ) {A : Type 0} → FitsNumeral base w → Passes base w → A
fits_passes base w h (inl p) = absurd (omega (arith, h.short))
fits_passes base w h (inr p) = absurd (omega (arith, h.small))

sized_too_long : (m n : ℕ) (w : List ℕ) (t s : SizedParts) {A : Type 0} → IsSized m n w t → w ≡ sized_text s → IsSizedLike s → Passes 10 s.width ⊎ Passes s.base s.digits → A
sized_too_long m n w t s {A = A} h e k l =
    let g = same_size t s [] [] h.like k (append-nil (sized_text t) ∙ sym h.joined ∙ e ∙ sym (append-nil (sized_text s))) in
    let d : t.digits ≡ s.digits = sym (append-nil t.digits) ∙ g.behind ∙ append-nil s.digits in
    parts l (subst (λ x. FitsNumeral 10 x) g.width h.width_fits) (subst (λ x. FitsNumeral s.base x) d (subst (λ c. FitsNumeral c t.digits) g.base h.digits_fit))
  where
    parts : Passes 10 s.width ⊎ Passes s.base s.digits → FitsNumeral 10 s.width → FitsNumeral s.base s.digits → A
    parts (inl p) x y = fits_passes 10 s.width x p
    parts (inr p) x y = fits_passes s.base s.digits y p

-- a token is not too long
pub not_too_long : (k : TokenKind) (w : List ℕ) {A : Type 0} → IsToken k w → IsTooLong w → A
not_too_long kinds.Name w h (long_name n l) = absurd (omega (arith, h.short))
not_too_long kinds.Name w h (long_number n l) = name_number w h.like n
not_too_long kinds.Name w h (long_sized s e n l) = name_sized w s h.like e n
not_too_long (kinds.Num m) w h (long_name n l) = name_number w n h.0.numeral
not_too_long (kinds.Num m) w h (long_number n l) = fits_passes 10 w h.0 l
not_too_long (kinds.Num m) w h (long_sized s e n l) = number_sized w s h.0.numeral e n
not_too_long (kinds.Sized m o) w (t, h) (long_name n l) = name_sized w t n h.joined h.like
not_too_long (kinds.Sized m o) w (t, h) (long_number n l) = number_sized w t n h.joined h.like
not_too_long (kinds.Sized m o) w (t, h) (long_sized s e n l) = sized_too_long m o w t s h e n l
not_too_long (kinds.Key k) w h (long_name n l) = absurd (omega (arith, key_short k, ap length h))
not_too_long (kinds.Key k) w h (long_number n l) = name_number w (subst IsNameLike (sym h) (key_like k)) n
not_too_long (kinds.Key k) w h (long_sized s e n l) = name_sized w s (subst IsNameLike (sym h) (key_like k)) e n
not_too_long (kinds.Sym s) w h (long_name n l) = name_symbol w s n h
not_too_long (kinds.Sym s) w h (long_number n l) = number_symbol w s n h
not_too_long (kinds.Sym s) w h (long_sized t e n l) = sized_symbol w t s e n h
