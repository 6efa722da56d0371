-- What a text begins with.
use Rattle.safl_word.proofs.Common.{EndsRun, Sym, eqb-true, is_digit}
use Rattle.std.proofs.Common.{◌≡◌, ◌≢◌, ℕ, ◌≤◌, List, [], ◌∷◌, ◌++◌, length, Option, Some, None, Bool, true, false, not, ◌==◌, refl, sym, ◌∙◌, ap, subst, arith}
use Rattle.safl_word.specs.Tokens.{sym_text, is_blank, begins_name, in_name, IsLexeme, name_like, number_like, sized_like, symbol_like, IsLongest, Blank, Comment, Lexeme, EndsLine}
use Rattle.safl_word.specs.Breaks.{IsForeign}
use Rattle.safl_word.specs.declared.token.TokenKind.TheVariants as kinds
use Rattle.safl_word.specs.declared.fault.Rule.TheVariants as rules
use Rattle.safl_word.proofs.Runs.{span}
use Rattle.safl_word.proofs.Lexemes.{same_head, same_tail, name_head, number_head, sized_head, clash, no_cons}
use Rattle.safl_word.proofs.Sizes.{symbol_longest}
use Rattle.safl_word.proofs.Finds.{sym_at, sym_sound, sym_none, sym_some, sym_short}
use Rattle.safl_word.proofs.Next.{Next, goes_on, breaks, name_next, digit_next}

-- a symbol at the front is the first byte, or the first two
pub data Split (w rest : List ℕ) (c : ℕ) : Type 0 where
  lone : w ≡ c ∷ [] → Split w rest c
  pair : (d : ℕ) (r : List ℕ) → rest ≡ d ∷ r → w ≡ c ∷ d ∷ [] → Split w rest c

split : (w v : List ℕ) (c : ℕ) (rest : List ℕ) → 1 ≤ length w → length w ≤ 2 → w ++ v ≡ c ∷ rest → Split w rest c
split [] v c rest s m e = absurd (omega arith)
split (a ∷ []) v c rest s m e = lone (ap (λ n. n ∷ []) (same_head a c v rest e))
split (a ∷ (b ∷ [])) v c rest s m e = pair b v (sym (same_tail a c _ _ e)) (ap (λ n. n ∷ b ∷ []) (same_head a c _ _ e))
split (a ∷ (b ∷ (d ∷ w))) v c rest s m e = absurd (omega arith)

pub sym_split : (t : Sym) (v : List ℕ) (c : ℕ) (rest : List ℕ) → sym_text t ++ v ≡ c ∷ rest → Split (sym_text t) rest c
sym_split t v c rest e = split (sym_text t) v c rest (sym_some t) (sym_short t) e

-- no symbol of two bytes begins here
unfoldable pub NoPair : ℕ → List ℕ → Type 0
NoPair c rest = (d : ℕ) (r : List ℕ) (t : Sym) → rest ≡ d ∷ r → c ∷ d ∷ [] ≢ sym_text t

-- a symbol of two bytes is the longest
pub pair_longest : (s : Sym) (c d : ℕ) (rest : List ℕ) → c ∷ d ∷ [] ≡ sym_text s → IsLongest (sym_text s) rest
pair_longest s c d rest e = symbol_longest s rest (λ t v q. omega (arith, sym_short t, ap length e))

-- a symbol of one byte is the longest where no longer one begins
pub lone_longest : (s : Sym) (c : ℕ) (rest : List ℕ) → c ∷ [] ≡ sym_text s → NoPair c rest → IsLongest (sym_text s) rest
unfolding NoPair
lone_longest s c rest e f = symbol_longest s rest (λ t v q. by_split t (sym_split t v c rest (q ∙ ap (λ w. w ++ rest) (sym e))))
  where
    by_split : (t : Sym) → Split (sym_text t) rest c → length (sym_text t) ≤ length (sym_text s)
    by_split t (lone g) = omega (arith, ap length g, ap length e)
    by_split t (pair d r g k) = absurd (f d r t g (sym k))

-- a byte that begins nothing
module _ (c : ℕ) (rest : List ℕ) (blank : is_blank c ≡ false) (name : begins_name c ≡ false) (digit : is_digit 10 c ≡ false) (none : (t : Sym) → c ∷ [] ≢ sym_text t)
    (pairs : NoPair c rest) where
  no_token : (u v : List ℕ) → u ++ v ≡ c ∷ rest → IsLexeme u → ⊥
  unfolding NoPair
  no_token u v e (name_like m) = clash (begins_name c) (name_head u v c rest m e) name
  no_token u v e (number_like m) = clash (is_digit 10 c) (number_head u v c rest m e) digit
  no_token u v e (sized_like s q m) = clash (is_digit 10 c) (sized_head s v c rest m (subst (λ k. k ++ v ≡ c ∷ rest) q e)) digit
  no_token u v e (symbol_like s q) = by_split s (sym_split s v c rest (subst (λ k. k ++ v ≡ c ∷ rest) q e))
    where
      by_split : (s : Sym) → Split (sym_text s) rest c → ⊥
      by_split s (lone g) = none s (sym g)
      by_split s (pair d r g k) = pairs d r s g (sym k)

  pub foreign : ((r : List ℕ) → c ∷ rest ≢ 47 ∷ 47 ∷ r) → IsForeign (c ∷ rest)
  unfolding NoPair
  foreign f = record {
    some = omega arith;
    no_blank = λ d r e h. clash (is_blank c) (ap is_blank (same_head c d rest r e) ∙ h) blank;
    no_comment = f;
    no_token = no_token;
  }

pub ends_line : (rest : List ℕ) → EndsRun (λ c. not (c == 10)) rest → EndsLine rest
ends_line [] h = tt
ends_line (c ∷ rest) h = by_test (c == 10) refl h
  where
    by_test : (b : Bool) → (c == 10) ≡ b → not b ≡ false → c ≡ 10
    by_test true e f = eqb-true c 10 e
    by_test false e f = cc

pub comment_next : (r : List ℕ) → Next (47 ∷ 47 ∷ r)
comment_next r =
    let s = span (λ c. not (c == 10)) r in
    goes_on (Comment s.front) s.rest (ap (λ w. 47 ∷ 47 ∷ w) (sym s.joined)) (s.passes, ends_line s.rest s.ends)

module _ (c : ℕ) (blank : is_blank c ≡ false) (name : begins_name c ≡ false) (digit : is_digit 10 c ≡ false) where
  -- no comment begins here
  lone_next : (rest : List ℕ) → NoPair c rest → ((r : List ℕ) → c ∷ rest ≢ 47 ∷ 47 ∷ r) → (k : Option Sym) → sym_at (c ∷ []) ≡ k → Next (c ∷ rest)
  unfolding NoPair
  lone_next rest p f None e = breaks rules.E01 (foreign c rest blank name digit (sym_none (c ∷ []) e) p f)
  lone_next rest p f (Some s) e =
      let q = sym_sound (c ∷ []) s e in
      goes_on (Lexeme (kinds.Sym s) (c ∷ [])) rest refl (q, subst (λ w. IsLongest w rest) (sym q) (lone_longest s c rest q p))

  pair_next : (d : ℕ) (r : List ℕ) → ((x : List ℕ) → c ∷ d ∷ r ≢ 47 ∷ 47 ∷ x) → (k : Option Sym) → sym_at (c ∷ d ∷ []) ≡ k → Next (c ∷ d ∷ r)
  unfolding NoPair
  pair_next d r f None e =
      lone_next (d ∷ r) (λ a x t g h. sym_none (c ∷ d ∷ []) e t (ap (λ n. c ∷ n ∷ []) (same_head d a r x g) ∙ h)) f (sym_at (c ∷ [])) refl
  pair_next d r f (Some s) e =
      let q = sym_sound (c ∷ d ∷ []) s e in
      goes_on (Lexeme (kinds.Sym s) (c ∷ d ∷ [])) r refl (q, subst (λ w. IsLongest w r) (sym q) (pair_longest s c d r q))

  second_next : (d : ℕ) (r : List ℕ) (b : Bool) → (c == 47) ≡ b → (k : Bool) → (d == 47) ≡ k → Next (c ∷ d ∷ r)
  second_next d r true e true g = subst Next (λ i. sym (eqb-true c 47 e) i ∷ sym (eqb-true d 47 g) i ∷ r) (comment_next r)
  second_next d r false e k g = pair_next d r (λ x q. clash (c == 47) (ap (λ n. n == 47) (same_head c 47 _ _ q)) e) (sym_at (c ∷ d ∷ [])) refl
  second_next d r true e false g =
      pair_next d r (λ x q. clash (d == 47) (ap (λ n. n == 47) (same_head d 47 _ _ (same_tail c 47 _ _ q))) g) (sym_at (c ∷ d ∷ [])) refl

  other_next : (rest : List ℕ) → Next (c ∷ rest)
  unfolding NoPair
  other_next [] = lone_next [] (λ d r t g h. no_cons d r g) (λ r e. no_cons 47 r (same_tail c 47 _ _ e)) (sym_at (c ∷ [])) refl
  other_next (d ∷ r) = second_next d r (c == 47) refl (d == 47) refl

by_class : (c : ℕ) (x : List ℕ) (a : Bool) → is_blank c ≡ a → (b : Bool) → begins_name c ≡ b → (d : Bool) → is_digit 10 c ≡ d → Next (c ∷ x)
by_class c x true e b f d g = goes_on (Blank c) x refl e
by_class c x false e true f d g = name_next c x f (span in_name x)
by_class c x false e false f true g = let s = span (is_digit 10) x in digit_next c x g s s.rest refl
by_class c x false e false f false g = other_next c e f g x

pub next : (c : ℕ) (x : List ℕ) → Next (c ∷ x)
next c x = by_class c x (is_blank c) refl (begins_name c) refl (is_digit 10 c) refl
