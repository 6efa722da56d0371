-- The piece that is found at the front of a text stands there.
use Rattle.safl_verilog.proofs.Common.{Decides-eqb, IsNumeral, Keyword, Symbol, TokenKind, base_of, is_blank, is_digit, is_identifier}
use Rattle.safl_verilog.proofs.Common.{is_part, is_start, nat_tests, net_name_max, same_Some, start_part}
use Rattle.std.proofs.Common.{◌≡◌, ◌≢◌, ℕ, suc, ◌+◌, ◌≤◌, List, [], ◌∷◌, ◌++◌, length, take, drop, true, not, ◌==◌, nat_le, Some, None, Option, refl}
use Rattle.std.proofs.Common.{sym, ap, subst, ◌∙◌, arith, inl, inr, append_assoc}
use Rattle.std.proofs.Math.Seq.{take-append_seam, take-append-add, drop-append-add}
use Rattle.std.proofs.lemmas.List.{take-append-drop, length-take-le}
use Rattle.safl_verilog.specs.declared.token.TokenKind.TheVariants as kinds
use Rattle.safl_verilog.specs.Tokens.{keyword_text, symbol_text, stops, next_base, base_with, IsVerilogToken, VerilogPiece, Blank, Line, Block, Lexeme, piece_text, StandsInVerilog}
use Rattle.safl_verilog.specs.Pieces.{run, named, all_keywords, single_symbols, double_symbols, word_kind, first_bytes, first_word, sized_length}
use Rattle.safl_verilog.specs.Pieces.{first_number, one_symbol, two_symbols, first_symbol, closing, block, first_comment, first_piece}
use Rattle.safl_verilog.proofs.Runs.{chosen, run_le, run_all, run_stops, are_parts-all, named_has}
use Rattle.safl_verilog.proofs.Closing.{closed}
use Rattle.safl_verilog.proofs.Symbols.{keyword_named, no_third, double_named}

-- a piece stands at the front of the text
pub record Cut (w : List ℕ) (x : VerilogPiece) : Type 0 where
  pub rest : List ℕ
  pub joined : w ≡ piece_text x ++ rest
  pub stands : StandsInVerilog x rest

cut_as : (w : List ℕ) (y : VerilogPiece) (o : Option VerilogPiece) (x : VerilogPiece) → Cut w y → o ≡ Some y → o ≡ Some x → Cut w x
cut_as w y o x k e h = subst (λ z. Cut w z) (same_Some _ _ (sym e ∙ h)) k

abbrev of_first : (w : List ℕ) (n : ℕ) (kind : TokenKind) → IsVerilogToken kind (take n w) (drop n w) → Cut w (Lexeme kind (take n w))
of_first w n kind h = record { rest = drop n w; joined = sym (take-append-drop n w); stands = h }

-- ---- words

word_like : (c : ℕ) (w : List ℕ) → is_start c ≡ true → is_identifier (take (run is_part (c ∷ w)) (c ∷ w)) ≡ true
word_like c w h = rw (start_part c h, h, are_parts-all (take (run is_part w) w), run_all is_part w) refl

pub no_keyword : (w : List ℕ) → named keyword_text all_keywords w ≡ None → (k : Keyword) → w ≢ keyword_text k
no_keyword w e k h = let f = ap (named keyword_text all_keywords) h ∙ keyword_named k in let g : None ≡ Some k = sym e ∙ f in cc

pub word_kinds : (w rest : List ℕ) → is_identifier w ≡ true → length w ≤ net_name_max → stops is_part rest ≡ true → (o : Option Keyword) → named
    keyword_text all_keywords w ≡ o → IsVerilogToken (word_kind o) w rest
word_kinds w rest like short stop None e = (record { like = like; short = short; free = no_keyword w e }, stop)
word_kinds w rest like short stop (Some k) e = (named_has keyword_text all_keywords w k e, stop)

word_found : (c : ℕ) (w : List ℕ) (x : VerilogPiece) → is_start c ≡ true → first_word (run is_part (c ∷ w)) (c ∷ w) ≡ Some x → Cut (c ∷ w) x
word_found c w x h e =
    let n = run is_part (c ∷ w) in
    elim (chosen (nat_le n net_name_max) (first_bytes (word_kind (named keyword_text all_keywords (take n (c ∷ w)))) n (c ∷ w)) None (Some x) e) [
      | inl a ↦ (
          let size : n ≤ net_name_max = grind (arith, nat_tests, a.0) in
          let short : length (take n (c ∷ w)) ≤ net_name_max = omega (arith, length-take-le n (c ∷ w) (run_le is_part (c ∷ w))) in
          let t = word_kinds (take n (c ∷ w)) (drop n (c ∷ w)) (word_like c w h) short (run_stops is_part (c ∷ w)) (named keyword_text all_keywords (take n (c ∷ w))) refl in
          cut_as (c ∷ w) _ _ x (of_first (c ∷ w) n (word_kind (named keyword_text all_keywords (take n (c ∷ w)))) t) refl a.1)
      | inr a ↦ absurd (let f : None ≡ Some x = a.1 in cc)
    ]

-- ---- numbers

numeral_front : (base c : ℕ) (w : List ℕ) → is_digit base c ≡ true → IsNumeral base (take (run (is_digit base) (c ∷ w)) (c ∷ w))
numeral_front base c w h = record { some = rw h (omega arith); digits = run_all (is_digit base) (c ∷ w) }

-- what stands after the width of a sized number
record Based (v : List ℕ) (base : ℕ) : Type 0 where
  letter : ℕ
  first : ℕ
  rest : List ℕ
  is : v ≡ 39 ∷ letter ∷ first ∷ rest
  based : base_of letter ≡ Some base
  digit : is_digit base first ≡ true

base_is : (o : Option ℕ) (d base : ℕ) → base_with o d ≡ Some base → (o ≡ Some base) × (is_digit base d ≡ true)
base_is None d base e = absurd cc
base_is (Some b) d base e = elim (chosen (is_digit b d) (Some b) None (Some base) e) [
  | inl a ↦ (a.1, subst (λ k. is_digit k d ≡ true) (same_Some _ _ a.1) a.0)
  | inr a ↦ absurd (let f : None ≡ Some base = a.1 in cc)
]

based : (v : List ℕ) (base : ℕ) → next_base v ≡ Some base → Based v base
based [] base e = absurd cc
based (q ∷ []) base e = absurd cc
based (q ∷ (b ∷ [])) base e = absurd cc
based (q ∷ (b ∷ (d ∷ rest))) base e = elim (chosen (q == 39) (base_with (base_of b) d) None (Some base) e) [
  | inl a ↦ (
      let k = base_is (base_of b) d base a.1 in
      record { letter = b; first = d; rest = rest; is = ap (λ n. n ∷ b ∷ d ∷ rest) ((Decides-eqb q 39).0 a.0); based = k.0; digit = k.1 })
  | inr a ↦ absurd (let f : None ≡ Some base = a.1 in cc)
]

sized_found : (u v : List ℕ) (base : ℕ) → IsNumeral 10 u → (k : Based v base) → IsVerilogToken kinds.Sized
    (take (sized_length (length u) base (u ++ v)) (u ++ v)) (drop (sized_length (length u) base (u ++ v)) (u ++ v))
sized_found u v base width k =
    let z : List ℕ = k.first ∷ k.rest in
    let m = run (is_digit base) z in
    let whole : u ++ v ≡ u ++ 39 ∷ k.letter ∷ z = ap (λ (l : List ℕ). u ++ l) k.is in
    let two : suc (suc (length u)) ≡ length u + 2 = omega arith in
    let behind : drop (suc (suc (length u))) (u ++ v) ≡ z = ap (λ (l : List ℕ). drop (suc (suc (length u))) l) whole ∙ ap
    (λ n. drop n (u ++ 39 ∷ k.letter ∷ z)) two ∙ drop-append-add u (39 ∷ k.letter ∷ z) 2 in
    let size : sized_length (length u) base (u ++ v) ≡ length u + suc (suc m) = ap (λ (l : List ℕ). length u + suc (suc (run (is_digit base) l))) behind in
    let front : take (sized_length (length u) base (u ++ v)) (u ++ v) ≡ u ++ 39 ∷ k.letter ∷ take m z = ap (λ n. take n (u ++ v)) size ∙ ap
    (λ (l : List ℕ). take (length u + suc (suc m)) l) whole ∙ take-append-add u (39 ∷ k.letter ∷ z) (suc (suc m)) in
    let back : drop (sized_length (length u) base (u ++ v)) (u ++ v) ≡ drop m z = ap (λ n. drop n (u ++ v)) size ∙ ap
    (λ (l : List ℕ). drop (length u + suc (suc m)) l) whole ∙ drop-append-add u (39 ∷ k.letter ∷ z) (suc (suc m)) in (
      record { width = u; letter = k.letter; base = base; digits = take m z },
      front,
      record { based = k.based; width = width; digits = numeral_front base k.first k.rest k.digit },
      subst (λ (l : List ℕ). stops (is_digit base) l ≡ true) (sym back) (run_stops (is_digit base) z),
    )

number_kinds : (w : List ℕ) (n : ℕ) (x : VerilogPiece) → n ≤ length w → IsNumeral 10 (take n w) → stops (is_digit 10) (drop n w) ≡ true → (o : Option ℕ) →
    next_base (drop n w) ≡ o → first_number o n w ≡ Some x → Cut w x
number_kinds w n x le digits stop None b e = cut_as w _ _ x (of_first w n kinds.Number (digits, stop, b)) refl e
number_kinds w n x le digits stop (Some base) b e =
    let k = based (drop n w) base b in
    let size : length (take n w) ≡ n = length-take-le n w le in
    let parts : take n w ++ drop n w ≡ w = take-append-drop n w in
    let t = sized_found (take n w) (drop n w) base digits k in
    let t2 = subst (λ j. IsVerilogToken kinds.Sized (take (sized_length j base (take n w ++ drop n w)) (take n w ++ drop n w))
    (drop (sized_length j base (take n w ++ drop n w)) (take n w ++ drop n w))) size t in
    let t3 = subst (λ (l : List ℕ). IsVerilogToken kinds.Sized (take (sized_length n base l) l) (drop (sized_length n base l) l)) parts t2 in
    cut_as w _ _ x (of_first w (sized_length n base w) kinds.Sized t3) refl e

-- ---- symbols

one_found : (c : ℕ) (w : List ℕ) (x : VerilogPiece) → ((d : ℕ) (v : List ℕ) → w ≡ d ∷ v → named symbol_text double_symbols (c ∷ d ∷ []) ≡ None) →
    (o : Option Symbol) → named symbol_text single_symbols (c ∷ []) ≡ o → one_symbol c o ≡ Some x → Cut (c ∷ w) x
one_found c w x longer None h e = absurd cc
one_found c w x longer (Some s) h e = cut_as (c ∷ w) (Lexeme (kinds.Symbol s) (c ∷ [])) _ x (record {
  rest = w;
  joined = refl;
  stands = (
    named_has symbol_text single_symbols (c ∷ []) s h,
    λ t d v a f. let g = sym (longer d v a) ∙ ap (named symbol_text double_symbols) (sym f)
        ∙ double_named t c d f in let i : None ≡ Some t = g in cc,
  );
}) refl e

symbol_found : (c : ℕ) (w : List ℕ) (x : VerilogPiece) → first_symbol c w ≡ Some x → Cut (c ∷ w) x
symbol_found c [] x e = one_found c [] x (λ d v a. absurd cc) (named symbol_text single_symbols (c ∷ [])) refl e
symbol_found c (d ∷ w) x e = go (named symbol_text double_symbols (c ∷ d ∷ [])) refl e
  where
    go : (o : Option Symbol) → named symbol_text double_symbols (c ∷ d ∷ []) ≡ o → two_symbols c d o ≡ Some x → Cut (c ∷ d ∷ w) x
    go None h e = one_found c (d ∷ w) x (λ d' v a. let same : d ≡ d' = cc in ap (λ k. named symbol_text double_symbols (c ∷ k ∷ [])) (sym same) ∙ h) (named symbol_text single_symbols (c ∷ [])) refl e
    go (Some s) h e = cut_as (c ∷ d ∷ w) (Lexeme (kinds.Symbol s) (c ∷ d ∷ [])) _ x
        (record { rest = w; joined = refl; stands = (named_has symbol_text double_symbols (c ∷ d ∷ []) s h, λ t f v a. no_third t c d f) }) refl e

-- ---- comments

block_found : (w : List ℕ) (x : VerilogPiece) (o : Option ℕ) → closing w ≡ o → block w o ≡ Some x → Cut (47 ∷ 42 ∷ w) x
block_found w x None h e = absurd cc
block_found w x (Some n) h e =
    let k = closed w n h in
    let front : take n w ≡ k.inner = ap (λ (l : List ℕ). take n l) k.joined ∙ ap (λ j. take j (k.inner ++ 42 ∷ 47 ∷ k.rest)) (sym k.size) ∙ take-append_seam k.inner (42 ∷ 47 ∷ k.rest) in
    cut_as (47 ∷ 42 ∷ w) (Block k.inner) _ x (record {
      rest = k.rest;
      joined = ap (λ (l : List ℕ). 47 ∷ 42 ∷ l)
          (k.joined ∙ sym (append_assoc k.inner (42 ∷ 47 ∷ []) k.rest));
      stands = k.first;
    }) (ap (λ (l : List ℕ). Some (Block l)) front) e

comment_found : (w : List ℕ) (x : VerilogPiece) → first_comment w ≡ Some x → Cut (47 ∷ w) x
comment_found [] x e = absurd cc
comment_found (c ∷ w) x e = elim (chosen (c == 47) _ _ (Some x) e) [
  | inl a ↦ subst (λ k. Cut (47 ∷ k ∷ w) x) (sym ((Decides-eqb c 47).0 a.0)) (
      let n = run (λ b. not (b == 10)) w in
      cut_as (47 ∷ 47 ∷ w) (Line (take n w)) _ x (record {
        rest = drop n w;
        joined = ap (λ (l : List ℕ). 47 ∷ 47 ∷ l) (sym (take-append-drop n w));
        stands = (run_all (λ b. not (b == 10)) w, run_stops (λ b. not (b == 10)) w);
      }) refl a.1)
  | inr a ↦ elim (chosen (c == 42) (block w (closing w)) None (Some x) a.1) [
    | inl b ↦ subst (λ k. Cut (47 ∷ k ∷ w) x) (sym ((Decides-eqb c 42).0 b.0)) (block_found w x (closing w) refl b.1)
    | inr b ↦ absurd (let f : None ≡ Some x = b.1 in cc)
  ]
]

-- ---- pieces

pub piece_found : (w : List ℕ) (x : VerilogPiece) → first_piece w ≡ Some x → Cut w x
unfolding first_piece
piece_found [] x e = absurd cc
piece_found (c ∷ w) x e = elim (chosen (is_blank c) _ _ (Some x) e) [
  | inl a ↦ cut_as (c ∷ w) (Blank c) _ x (record { rest = w; joined = refl; stands = a.0 }) refl a.1
  | inr a ↦ elim (chosen (c == 47) _ _ (Some x) a.1) [
    | inl b ↦ subst (λ k. Cut (k ∷ w) x) (sym ((Decides-eqb c 47).0 b.0)) (comment_found w x b.1)
    | inr b ↦ elim (chosen (is_start c) _ _ (Some x) b.1) [
      | inl d ↦ word_found c w x d.0 d.1
      | inr d ↦ elim (chosen (is_digit 10 c) _ _ (Some x) d.1) [
        | inl g ↦ number_kinds (c ∷ w) (run (is_digit 10) (c ∷ w)) x (run_le (is_digit 10) (c ∷ w)) (numeral_front 10 c w g.0)
            (run_stops (is_digit 10) (c ∷ w)) (next_base (drop (run (is_digit 10) (c ∷ w)) (c ∷ w))) refl g.1
        | inr g ↦ symbol_found c w x g.1
      ]
    ]
  ]
]
