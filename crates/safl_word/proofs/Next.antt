-- Each text that is not at its end begins with a piece, or with a fault.
use Rattle.safl_word.proofs.Common.{EndsRun, IsNumeral, Key, Rule, is_digit, list_all, same_Some, value}
use Rattle.std.proofs.Common.{◌≡◌, ℕ, ◌⊎◌, inl, inr, List, [], ◌∷◌, ◌++◌, length, Option, Some, None, Bool, true, false, ◌==◌, nat_lt, refl, sym, ◌∙◌, ap, subst, arith, append_assoc}
use Rattle.std.proofs.lemmas.Bool.{and_parts, ltb-true, ltb-false, eqb-true}
use Rattle.safl_word.specs.Tokens.{begins_name, in_name, base_of, IsNameLike, SizedParts, sized_text, IsSizedLike}
use Rattle.safl_word.specs.Limits.{name_max, digits_max, value_bound}
use Rattle.safl_word.specs.Tokens.{FitsNumeral, IsLongest, Piece, Lexeme, text_of, StandsBefore}
use Rattle.safl_word.specs.Breaks.{Passes, long_name, long_number, long_sized, BreaksAtFirst}
use Rattle.safl_word.specs.declared.token.TokenKind.TheVariants as kinds
use Rattle.safl_word.specs.declared.fault.Rule.TheVariants as rules
use Rattle.safl_word.proofs.Runs.{Span, span}
use Rattle.safl_word.proofs.Lexemes.{same_head, same_tail, name_longest, number_longest, NoSizeFollows}
use Rattle.safl_word.proofs.Sizes.{sized_longest}
use Rattle.safl_word.proofs.Finds.{key_at, key_sound, key_none}

pub data Next (text : List ℕ) : Type 0 where
  goes_on : (x : Piece) (rest : List ℕ) → text ≡ text_of x ++ rest → StandsBefore x rest → Next text
  breaks : (e : Rule) → BreaksAtFirst e text → Next text

-- a numeral fits, or passes a limit
pub fits_or_passes : (base : ℕ) (w : List ℕ) → IsNumeral base w → FitsNumeral base w ⊎ Passes base w
fits_or_passes base w n = by_length (nat_lt digits_max (length w)) refl (nat_lt (value base w) value_bound) refl
  where
    by_length : (b : Bool) → nat_lt digits_max (length w) ≡ b → (d : Bool) → nat_lt (value base w) value_bound ≡ d → FitsNumeral base w ⊎ Passes base w
    by_length true e d h = inr (inl (ltb-true digits_max (length w) e))
    by_length false e true h = inl (record { numeral = n; short = ltb-false digits_max (length w) e; small = ltb-true (value base w) value_bound h })
    by_length false e false h = inr (inr (ltb-false (value base w) value_bound h))

-- a name or a key
pub name_next : (c : ℕ) (x : List ℕ) → begins_name c ≡ true → Span in_name x → Next (c ∷ x)
name_next c x h s = by_length (nat_lt name_max (length (c ∷ s.front))) refl (key_at (c ∷ s.front)) refl
  where
    like : IsNameLike (c ∷ s.front)
    like = (h, s.passes)

    joined : c ∷ x ≡ (c ∷ s.front) ++ s.rest
    joined = ap (λ w. c ∷ w) (sym s.joined)

    longest : IsLongest (c ∷ s.front) s.rest
    longest = name_longest c s.front s.rest like s.ends

    by_length : (b : Bool) → nat_lt name_max (length (c ∷ s.front)) ≡ b → (k : Option Key) → key_at (c ∷ s.front) ≡ k → Next (c ∷ x)
    by_length true e k f =
        breaks rules.E03
        (record { front = c ∷ s.front; rest = s.rest; joined = joined; longest = longest; too_long = long_name like (ltb-true name_max (length (c ∷ s.front)) e) })
    by_length false e None f =
        goes_on (Lexeme kinds.Name (c ∷ s.front)) s.rest joined
        (record { like = like; free = key_none (c ∷ s.front) f; short = ltb-false name_max (length (c ∷ s.front)) e }, longest)
    by_length false e (Some k) f = goes_on (Lexeme (kinds.Key k) (c ∷ s.front)) s.rest joined (key_sound (c ∷ s.front) k f, longest)

-- a number that no size follows
number_next : (text w rest : List ℕ) → text ≡ w ++ rest → IsNumeral 10 w → EndsRun (is_digit 10) rest → NoSizeFollows rest → Next text
number_next text w rest j n h f = by_fit (fits_or_passes 10 w n)
  where
    by_fit : FitsNumeral 10 w ⊎ Passes 10 w → Next text
    by_fit (inl k) = goes_on (Lexeme (kinds.Num (value 10 w)) w) rest j ((k, refl), number_longest w rest n h f)
    by_fit (inr p) = breaks rules.E03 (record { front = w; rest = rest; joined = j; longest = number_longest w rest n h f; too_long = long_number n p })

-- a sized number
sized_next : (text : List ℕ) (s : SizedParts) (rest : List ℕ) → text ≡ sized_text s ++ rest → IsSizedLike s → EndsRun (is_digit s.base) rest → Next text
sized_next text s rest j k h = by_fit (fits_or_passes 10 s.width k.width) (fits_or_passes s.base s.digits k.digits)
  where
    too_long : Passes 10 s.width ⊎ Passes s.base s.digits → Next text
    too_long p = breaks rules.E03 (record { front = sized_text s; rest = rest; joined = j; longest = sized_longest s rest k h; too_long = long_sized s refl k p })

    by_fit : FitsNumeral 10 s.width ⊎ Passes 10 s.width → FitsNumeral s.base s.digits ⊎ Passes s.base s.digits → Next text
    by_fit (inr p) d = too_long (inl p)
    by_fit (inl u) (inr p) = too_long (inr p)
    by_fit (inl u) (inl d) =
        goes_on (Lexeme (kinds.Sized (value 10 s.width) (value s.base s.digits)) (sized_text s)) rest j
        ((s, record { joined = refl; like = k; width_fits = u; digits_fit = d; width_is = refl; value_is = refl }), sized_longest s rest k h)

-- what no size is
none_follows : (rest : List ℕ) → ((letter : ℕ) (x : List ℕ) → rest ≡ 39 ∷ letter ∷ x → base_of letter ≡ None) → NoSizeFollows rest
unfolding NoSizeFollows
none_follows rest h letter base digits v b n e = let k = h letter (digits ++ v) e in cc

no_digit_follows : (letter base : ℕ) (x : List ℕ) → base_of letter ≡ Some base → EndsRun (is_digit base) x → NoSizeFollows (39 ∷ letter ∷ x)
unfolding NoSizeFollows
no_digit_follows letter base x b h l c [] v d n e = omega (arith, n.some)
no_digit_follows letter base x b h l c (d ∷ digits) v g n e =
    let t = same_tail _ _ _ _ e in
    let i : letter ≡ l = same_head _ _ _ _ t in
    let same_base : base ≡ c = same_Some base c (sym b ∙ ap base_of i ∙ g) in
    fails (same_tail _ _ _ _ t) (subst (λ k. is_digit k d ≡ true) (sym same_base) (and_parts _ _ n.digits).0)
  where
    fails : x ≡ d ∷ (digits ++ v) → is_digit base d ≡ true → ⊥
    fails q t = let f : is_digit base d ≡ false = subst (EndsRun (is_digit base)) q h in cc

-- a number, of a size or of none
module _ (c : ℕ) (x : List ℕ) (h : is_digit 10 c ≡ true) (s : Span (is_digit 10) x) where
  numeral : IsNumeral 10 (c ∷ s.front)
  unfolding NoSizeFollows
  numeral = record { some = omega arith; digits = rw h s.passes }

  plain : (rest : List ℕ) → s.rest ≡ rest → NoSizeFollows rest → Next (c ∷ x)
  unfolding NoSizeFollows
  plain rest e f =
      number_next (c ∷ x) (c ∷ s.front) rest (ap (λ w. c ∷ w) (sym s.joined ∙ ap (λ w. s.front ++ w) e)) numeral (subst (EndsRun (is_digit 10)) e s.ends) f

  with_base : (letter base : ℕ) (q : List ℕ) → s.rest ≡ 39 ∷ letter ∷ q → base_of letter ≡ Some base → Span (is_digit base) q → Next (c ∷ x)
  with_base letter base q e b t = by_front t.front t.rest t.joined t.passes t.ends
    where
      by_front : (front rest : List ℕ) → front ++ rest ≡ q → list_all (is_digit base) front ≡ true → EndsRun (is_digit base) rest → Next (c ∷ x)
      by_front [] rest j p n = plain (39 ∷ letter ∷ q) e (no_digit_follows letter base q b (subst (EndsRun (is_digit base)) j n))
      by_front (d ∷ front) rest j p n =
          let k : IsSizedLike (record { width = c ∷ s.front; letter = letter; base = base; digits = d ∷ front }) =
          record { based = b; width = numeral; digits = record { some = omega arith; digits = p } } in
          sized_next (c ∷ x) (record { width = c ∷ s.front; letter = letter; base = base; digits = d ∷ front }) rest
          (ap (λ w. c ∷ w) (sym s.joined ∙ ap (λ w. s.front ++ w) (e ∙ ap (λ w. 39 ∷ letter ∷ w) (sym j)) ∙ sym (append_assoc s.front (39 ∷ letter ∷ d ∷ front) rest)))
          k n

  with_letter : (letter : ℕ) (q : List ℕ) (b : Option ℕ) → s.rest ≡ 39 ∷ letter ∷ q → base_of letter ≡ b → Next (c ∷ x)
  with_letter letter q None e f =
      plain (39 ∷ letter ∷ q) e (none_follows (39 ∷ letter ∷ q) (λ l y g. ap base_of (sym (same_head letter l q y (same_tail 39 39 _ _ g))) ∙ f))
  with_letter letter q (Some base) e f = with_base letter base q e f (span (is_digit base) q)

  behind_quote : (r : List ℕ) → s.rest ≡ 39 ∷ r → Next (c ∷ x)
  behind_quote [] e = plain (39 ∷ []) e (none_follows (39 ∷ []) (λ l y g. absurd (no_more l y g)))
    where
      no_more : (l : ℕ) (y : List ℕ) → 39 ∷ [] ≡ 39 ∷ l ∷ y → ⊥
      no_more l y g = let t = same_tail 39 39 _ _ g in cc
  behind_quote (letter ∷ q) e = with_letter letter q (base_of letter) e refl

  behind : (d : ℕ) (r : List ℕ) (b : Bool) → (d == 39) ≡ b → s.rest ≡ d ∷ r → Next (c ∷ x)
  behind d r true k e = behind_quote r (e ∙ ap (λ n. n ∷ r) (eqb-true d 39 k))
  behind d r false k e = plain (d ∷ r) e (none_follows (d ∷ r) (λ l y g. absurd (differs l y g)))
    where
      differs : (l : ℕ) (y : List ℕ) → d ∷ r ≡ 39 ∷ l ∷ y → ⊥
      differs l y g = let t : (d == 39) ≡ true = ap (λ n. n == 39) (same_head d 39 _ _ g) in cc

  pub digit_next : (rest : List ℕ) → s.rest ≡ rest → Next (c ∷ x)
  digit_next [] e = plain [] e (none_follows [] (λ l y g. absurd (no_cons l y g)))
    where
      no_cons : (l : ℕ) (y : List ℕ) → [] ≡ 39 ∷ l ∷ y → ⊥
      no_cons l y g = cc
  digit_next (d ∷ r) e = behind d r (d == 39) refl e
