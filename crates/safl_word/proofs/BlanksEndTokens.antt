-- A blank ends each token.
use Rattle.safl_word.proofs.Common.{Sym, and_parts, list_all, list_all-append, nat_tests}
use Rattle.std.proofs.Common.{◌≡◌, ℕ, ◌+◌, ◌<◌, ◌^◌, List, [], ◌∷◌, ◌++◌, length, Some, None, Bool, true, false, not, ◌||◌, codes, decimal, refl, sym, ap, subst, arith, append_assoc}
use Rattle.safl_word.specs.Numerals.{between, is_digit, value}
use Rattle.safl_word.specs.Tokens.{sym_text, FitsNumeral, IsToken, is_blank, in_name, base_of, SizedParts, IsLexeme, name_like, number_like, sized_like}
use Rattle.safl_word.specs.Tokens.{symbol_like, IsLongest, Piece, Blank, Lexeme, text_of_all, StandAll, tokens_from, HasTokens}
use Rattle.safl_word.specs.declared.token.Sym.TheVariants as syms
use Rattle.safl_word.specs.Spacing.{Spaced, AreSpaced, spaced_text, spaced_tokens}
use Rattle.safl_word.specs.declared.token.TokenKind.TheVariants as kinds
use Rattle.safl_word.proofs.Runs.{run_short}
use Rattle.safl_word.proofs.WordLaws.{decimal_counts}
use Rattle.safl_word.proofs.Lexemes.{all_in_name}

abbrev solid : ℕ → Bool
solid c = not (is_blank c)

name_solid : (c : ℕ) → in_name c ≡ true → solid c ≡ true
name_solid c h = grind (arith, nat_tests)

glyph_solid : (c : ℕ) → (between 48 57 c || between 65 70 c || between 97 102 c) ≡ true → solid c ≡ true
glyph_solid c h = grind (arith, nat_tests)

digit_solid : (base c : ℕ) → is_digit base c ≡ true → solid c ≡ true
digit_solid base c h = glyph_solid c (and_parts _ _ h).0

blank_no_base : (c : ℕ) → is_blank c ≡ true → base_of c ≡ None
blank_no_base c h = grind (arith, nat_tests)

letter_solid : (c base : ℕ) → base_of c ≡ Some base → solid c ≡ true
letter_solid c base h = by_test (is_blank c) refl
  where
    by_test : (b : Bool) → is_blank c ≡ b → not b ≡ true
    by_test true e = let n = blank_no_base c e in cc
    by_test false e = refl

all_weaker : (p q : ℕ → Bool) → ((c : ℕ) → p c ≡ true → q c ≡ true) → (w : List ℕ) → list_all p w ≡ true → list_all q w ≡ true
all_weaker p q f [] h = refl
all_weaker p q f (c ∷ w) h = rw (f c (and_parts (p c) (list_all p w) h).0) (all_weaker p q f w (and_parts (p c) (list_all p w) h).1)

symbol_solid : (s : Sym) → list_all solid (sym_text s) ≡ true
symbol_solid syms.OpenParen = refl
symbol_solid _ = refl

-- no token holds a blank
pub token_solid : (w : List ℕ) → IsLexeme w → list_all solid w ≡ true
token_solid w (name_like m) = all_weaker in_name solid name_solid w (all_in_name w m)
token_solid w (number_like m) = all_weaker (is_digit 10) solid (digit_solid 10) w m.digits
token_solid w (sized_like s q m) =
    let a = all_weaker (is_digit 10) solid (digit_solid 10) s.width m.width.digits in
    let b = all_weaker (is_digit s.base) solid (digit_solid s.base) s.digits m.digits.digits in
    let l = letter_solid s.letter s.base m.based in
    rw (q, list_all-append solid s.width (39 ∷ s.letter ∷ s.digits), a, l, b) refl
token_solid w (symbol_like s q) = subst (λ k. list_all solid k ≡ true) (sym q) (symbol_solid s)

pub longest_before_blank : (w : List ℕ) (b : ℕ) (rest : List ℕ) → is_blank b ≡ true → IsLongest w (b ∷ rest)
longest_before_blank w b rest h u v e l = run_short solid u v w (b ∷ rest) (token_solid u l) (ap not h) e

abbrev pieces_of : List Spaced → List Piece
pieces_of [] = []
pieces_of (x ∷ xs) = Lexeme x.kind x.text ∷ Blank x.blank ∷ pieces_of xs

pieces_text : (xs : List Spaced) → spaced_text xs ≡ text_of_all (pieces_of xs)
pieces_text [] = refl
pieces_text (x ∷ xs) = ap (λ w. x.text ++ x.blank ∷ w) (pieces_text xs)

pieces_stand : (xs : List Spaced) → AreSpaced xs → StandAll (pieces_of xs) []
pieces_stand [] a = tt
pieces_stand (x ∷ xs) a = ((a.0.token, longest_before_blank x.text x.blank _ a.0.blank), (a.0.blank, pieces_stand xs a.1))

pieces_tokens : (p : ℕ) (xs : List Spaced) → spaced_tokens p xs ≡ tokens_from p (pieces_of xs)
pieces_tokens p [] = refl
pieces_tokens p (x ∷ xs) = ap (λ ts. record { start = p; stop = p + length x.text; kind = x.kind } ∷ ts) (pieces_tokens (p + length x.text + 1) xs)

pub spaced_reads : (xs : List Spaced) → AreSpaced xs → HasTokens (spaced_text xs) (spaced_tokens 0 xs)
spaced_reads xs a = record { pieces = pieces_of xs; joined = pieces_text xs; stand = pieces_stand xs a; tokens = pieces_tokens 0 xs }

decimal_fits : (n : ℕ) → n < 2 ^ 128 → FitsNumeral 10 (decimal n) × (value 10 (decimal n) ≡ n)
decimal_fits n lt =
    let c = decimal_counts n lt in
    (record { numeral = c.0.numeral; short = omega (arith, c.0.short); small = c.0.small }, c.1)

pub number_token : (n : ℕ) → n < 2 ^ 128 → IsToken (kinds.Num n) (decimal n)
number_token n lt = let c = decimal_fits n lt in (c.0, sym c.1)

pub size_token : (m n : ℕ) → m < 2 ^ 128 → n < 2 ^ 128 → IsToken (kinds.Sized m n) (decimal m ++ codes "'d" ++ decimal n)
size_token m n l k =
    let a = decimal_fits m l in
    let b = decimal_fits n k in
    let s : SizedParts = record { width = decimal m; letter = 100; base = 10; digits = decimal n } in (
      s,
      record {
        joined = append_assoc (decimal m) (codes "'d") (decimal n);
        like = record { based = refl; width = a.0.numeral; digits = b.0.numeral };
        width_fits = a.0;
        digits_fit = b.0;
        width_is = sym a.1;
        value_is = sym b.1;
      },
    )
