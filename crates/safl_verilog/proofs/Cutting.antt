-- A piece that stands at the front of a text is found there, so a text is cut in one way.
use Rattle.safl_verilog.proofs.Common.{Keyword, Symbol, TokenKind, and_parts, base_of, list_all, nat_tests, net_name_max, start_part}
use Rattle.std.proofs.Common.{◌≡◌, ◌≢◌, ℕ, suc, ◌+◌, ◌≤◌, List, [], ◌∷◌, ◌++◌, length, take, drop, true, not, ◌==◌, nat_le, Some, None, Option, refl, sym, ap, subst, ◌∙◌, arith, append_assoc}
use Rattle.std.proofs.Math.Seq.{take-append_seam, drop-append_seam, take-append-add, drop-append-add}
use Rattle.safl_word.specs.Numerals.{is_digit, IsNumeral}
use Rattle.safl_net.specs.Names.{is_start, is_part, are_parts, is_identifier}
use Rattle.safl_verilog.specs.declared.token.Symbol.TheVariants as symbols
use Rattle.safl_verilog.specs.declared.token.TokenKind.TheVariants as kinds
use Rattle.safl_verilog.specs.Tokens.{keyword_text, symbol_text, stops, next_base, IsVerilogToken, VerilogPiece, Blank, Line, Block, Lexeme, piece_text, StandsInVerilog}
use Rattle.safl_verilog.specs.Pieces.{run, named, all_keywords, single_symbols, double_symbols, word_kind, first_word, sized_length, first_number}
use Rattle.safl_verilog.specs.Pieces.{one_symbol, two_symbols, first_symbol, block, piece_at, first_piece}
use Rattle.safl_verilog.proofs.Runs.{other_than, run_of, are_parts-all, named_none}
use Rattle.safl_verilog.proofs.Closing.{closing_of}
use Rattle.safl_verilog.proofs.Bytes.{not_blank, digit_no_start}
use Rattle.safl_verilog.proofs.Symbols.{keyword_named, keyword_like, keyword_short}

-- ---- words

short_enough : (n : ℕ) → n ≤ net_name_max → nat_le n net_name_max ≡ true
short_enough n h = grind (arith, nat_tests)

word_cut : (w rest : List ℕ) (o : Option Keyword) → is_identifier w ≡ true → length w ≤ net_name_max → stops is_part rest ≡ true → named keyword_text
    all_keywords w ≡ o → first_piece (w ++ rest) ≡ Some (Lexeme (word_kind o) w)
unfolding first_piece
word_cut [] rest o like short stop e = absurd cc
word_cut (c ∷ w) rest o like short stop e =
    let a = and_parts (is_start c) (are_parts w) like in
    let blank = not_blank is_start c a.0 refl refl refl refl in
    let slash = other_than is_start c 47 a.0 refl in
    let parts : list_all is_part w ≡ true = sym (are_parts-all w) ∙ a.1 in
    let size : run is_part (c ∷ w ++ rest) ≡ length (c ∷ w) = rw (start_part c a.0, run_of is_part w rest parts stop) refl in
    let front : take (length (c ∷ w)) ((c ∷ w) ++ rest) ≡ c ∷ w = take-append_seam (c ∷ w) rest in
    let here : piece_at c (w ++ rest) ≡ first_word (run is_part (c ∷ w ++ rest)) (c ∷ w ++ rest) = rw (blank, slash, a.0) refl in
    let sized : first_word (run is_part (c ∷ w ++ rest)) (c ∷ w ++ rest) ≡ first_word (length (c ∷ w)) (c ∷ w ++ rest) = ap (λ n. first_word n (c ∷ w ++ rest)) size in
    here ∙ sized ∙ rw (short_enough (length (c ∷ w)) short) (ap (λ (l : List ℕ). Some (Lexeme (word_kind (named keyword_text all_keywords l)) l))
    front ∙ ap (λ k. Some (Lexeme (word_kind k) (c ∷ w))) e)

-- ---- numbers

at_number : (c : ℕ) (w rest : List ℕ) (o : Option ℕ) → IsNumeral 10 (c ∷ w) → stops (is_digit 10) rest ≡ true → next_base rest ≡ o → piece_at c
    (w ++ rest) ≡ first_number o (length (c ∷ w)) (c ∷ w ++ rest)
at_number c w rest o n stop e =
    let a = and_parts (is_digit 10 c) (list_all (is_digit 10) w) n.digits in
    let blank = not_blank (is_digit 10) c a.0 refl refl refl refl in
    let slash = other_than (is_digit 10) c 47 a.0 refl in
    let size : run (is_digit 10) (c ∷ w ++ rest) ≡ length (c ∷ w) = rw (a.0, run_of (is_digit 10) w rest a.1 stop) refl in
    let back : drop (run (is_digit 10) (c ∷ w ++ rest)) (c ∷ w ++ rest) ≡ rest = ap (λ n. drop n (c ∷ w ++ rest)) size ∙ drop-append_seam (c ∷ w) rest in
    let here : piece_at c (w ++ rest) ≡ first_number (next_base (drop (run (is_digit 10) (c ∷ w ++ rest)) (c ∷ w ++ rest)))
    (run (is_digit 10) (c ∷ w ++ rest)) (c ∷ w ++ rest) = rw (blank, slash, digit_no_start c a.0, a.0) refl in
    here ∙ ap (λ (l : List ℕ). first_number (next_base l) (run (is_digit 10) (c ∷ w ++ rest)) (c ∷ w ++ rest)) back ∙ ap
    (λ b. first_number b (run (is_digit 10) (c ∷ w ++ rest)) (c ∷ w ++ rest)) e ∙ ap (λ n. first_number o n (c ∷ w ++ rest)) size

number_cut : (w rest : List ℕ) → IsNumeral 10 w → stops (is_digit 10) rest ≡ true → next_base rest ≡ None → first_piece (w ++ rest) ≡ Some (Lexeme kinds.Number w)
unfolding first_piece
number_cut [] rest n stop e = absurd (let some : 1 ≤ 0 = n.some in omega arith)
number_cut (c ∷ w) rest n stop e = at_number c w rest None n stop e ∙ ap (λ (l : List ℕ). Some (Lexeme kinds.Number l)) (take-append_seam (c ∷ w) rest)

sized_next : (letter base : ℕ) (digits rest : List ℕ) → base_of letter ≡ Some base → IsNumeral base digits → next_base (39 ∷ letter ∷ digits ++ rest) ≡ Some base
sized_next letter base [] rest b n = absurd (let some : 1 ≤ 0 = n.some in omega arith)
sized_next letter base (d ∷ digits) rest b n =
    let a = and_parts (is_digit base d) (list_all (is_digit base) digits) n.digits in
    rw (b, a.0) refl

sized_front : (u : List ℕ) (letter base : ℕ) (digits rest : List ℕ) → IsNumeral base digits → stops (is_digit base) rest ≡ true → first_number
    (Some base) (length u) (u ++ (39 ∷ letter ∷ digits ++ rest)) ≡ Some (Lexeme kinds.Sized (u ++ 39 ∷ letter ∷ digits))
sized_front u letter base digits rest n stop =
    let z : List ℕ = 39 ∷ letter ∷ digits ++ rest in
    let two : suc (suc (length u)) ≡ length u + 2 = omega arith in
    let behind : drop (suc (suc (length u))) (u ++ z) ≡ digits ++ rest = ap (λ n. drop n (u ++ z)) two ∙ drop-append-add u z 2 in
    let size : sized_length (length u) base (u ++ z) ≡ length u + suc (suc (length digits)) = ap
    (λ (l : List ℕ). length u + suc (suc (run (is_digit base) l))) behind ∙ ap (λ n. length u + suc (suc n)) (run_of (is_digit base) digits rest n.digits stop) in
    let front : take (length u + suc (suc (length digits))) (u ++ z) ≡ u ++ 39 ∷ letter ∷ digits = take-append-add u z (suc (suc (length digits))) ∙
    ap (λ (l : List ℕ). u ++ 39 ∷ letter ∷ l) (take-append_seam digits rest) in
    ap (λ (l : List ℕ). Some (Lexeme kinds.Sized l)) (ap (λ n. take n (u ++ z)) size ∙ front)

sized_parts_cut : (u : List ℕ) (letter base : ℕ) (digits rest : List ℕ) → IsNumeral 10 u → base_of letter ≡ Some base → IsNumeral base digits → stops
    (is_digit base) rest ≡ true → first_piece ((u ++ 39 ∷ letter ∷ digits) ++ rest) ≡ Some (Lexeme kinds.Sized (u ++ 39 ∷ letter ∷ digits))
unfolding first_piece
sized_parts_cut [] letter base digits rest m b n stop = absurd (let some : 1 ≤ 0 = m.some in omega arith)
sized_parts_cut (c ∷ u) letter base digits rest m b n stop =
    let regrouped : (u ++ 39 ∷ letter ∷ digits) ++ rest ≡ u ++ (39 ∷ letter ∷ digits ++ rest) = append_assoc u (39 ∷ letter ∷ digits) rest in
    ap (λ (l : List ℕ). piece_at c l) regrouped ∙ at_number c u (39 ∷ letter ∷ digits ++ rest) (Some base) m refl
    (sized_next letter base digits rest b n) ∙ sized_front (c ∷ u) letter base digits rest n stop

-- ---- symbols

one_cut : (c : ℕ) (s : Symbol) (rest : List ℕ) → named symbol_text single_symbols (c ∷ []) ≡ Some s →
    ((t : Symbol) (d : ℕ) (v : List ℕ) → rest ≡ d ∷ v → symbol_text t ≢ c ∷ d ∷ []) → first_symbol c rest ≡ Some (Lexeme (kinds.Symbol s) (c ∷ []))
one_cut c s [] e h = ap (one_symbol c) e
one_cut c s (d ∷ rest) e h =
    let none = named_none symbol_text double_symbols (c ∷ d ∷ []) (λ t f. h t d rest refl (sym f)) in
    ap (two_symbols c d) none ∙ ap (one_symbol c) e

symbol_cut : (s : Symbol) (rest : List ℕ) → ((t : Symbol) (d : ℕ) (v : List ℕ) → rest ≡ d ∷ v → symbol_text t ≢ symbol_text s ++ d ∷ []) → first_piece
    (symbol_text s ++ rest) ≡ Some (Lexeme (kinds.Symbol s) (symbol_text s))
unfolding first_piece
symbol_cut symbols.OpenParen rest h = one_cut 40 symbols.OpenParen rest refl h
symbol_cut symbols.CloseParen rest h = one_cut 41 symbols.CloseParen rest refl h
symbol_cut symbols.Comma rest h = one_cut 44 symbols.Comma rest refl h
symbol_cut symbols.Semicolon rest h = one_cut 59 symbols.Semicolon rest refl h
symbol_cut symbols.OpenBracket rest h = one_cut 91 symbols.OpenBracket rest refl h
symbol_cut symbols.CloseBracket rest h = one_cut 93 symbols.CloseBracket rest refl h
symbol_cut symbols.Colon rest h = one_cut 58 symbols.Colon rest refl h
symbol_cut symbols.Becomes rest h = one_cut 61 symbols.Becomes rest refl h
symbol_cut symbols.Tilde rest h = one_cut 126 symbols.Tilde rest refl h
symbol_cut symbols.Question rest h = one_cut 63 symbols.Question rest refl h
symbol_cut symbols.OpenBrace rest h = one_cut 123 symbols.OpenBrace rest refl h
symbol_cut symbols.CloseBrace rest h = one_cut 125 symbols.CloseBrace rest refl h
symbol_cut symbols.At rest h = one_cut 64 symbols.At rest refl h
symbol_cut symbols.Plus rest h = one_cut 43 symbols.Plus rest refl h
symbol_cut symbols.Minus rest h = one_cut 45 symbols.Minus rest refl h
symbol_cut symbols.Star rest h = one_cut 42 symbols.Star rest refl h
symbol_cut symbols.Ampersand rest h = one_cut 38 symbols.Ampersand rest refl h
symbol_cut symbols.Bar rest h = one_cut 124 symbols.Bar rest refl h
symbol_cut symbols.Caret rest h = one_cut 94 symbols.Caret rest refl h
symbol_cut symbols.Less rest h = one_cut 60 symbols.Less rest refl h
symbol_cut symbols.Greater rest h = one_cut 62 symbols.Greater rest refl h
symbol_cut symbols.Equal rest h = refl
symbol_cut symbols.NotEqual rest h = refl
symbol_cut symbols.LessEqual rest h = refl
symbol_cut symbols.GreaterEqual rest h = refl
symbol_cut symbols.ShiftLeft rest h = refl
symbol_cut symbols.ShiftRight rest h = refl

-- ---- pieces

token_cut : (k : TokenKind) (w rest : List ℕ) → IsVerilogToken k w rest → first_piece (w ++ rest) ≡ Some (Lexeme k w)
token_cut kinds.Identifier w rest h = word_cut w rest None h.0.like h.0.short h.1 (named_none keyword_text all_keywords w h.0.free)
token_cut kinds.Number w rest h = number_cut w rest h.0 h.1 h.2
token_cut kinds.Sized w rest h =
    let p = h.0 in
    subst (λ (l : List ℕ). first_piece (l ++ rest) ≡ Some (Lexeme kinds.Sized l)) (sym h.1)
    (sized_parts_cut p.width p.letter p.base p.digits rest h.2.width h.2.based h.2.digits h.3)
token_cut (kinds.Keyword k) w rest h = subst (λ (l : List ℕ). first_piece (l ++ rest) ≡ Some (Lexeme (kinds.Keyword k) l)) (sym h.0)
    (word_cut (keyword_text k) rest (Some k) (keyword_like k) (keyword_short k) h.1 (keyword_named k))
token_cut (kinds.Symbol s) w rest h = subst (λ (l : List ℕ). first_piece (l ++ rest) ≡ Some (Lexeme (kinds.Symbol s) l)) (sym h.0)
    (symbol_cut s rest (λ t d v e f. h.1 t d v e (f ∙ ap (λ (l : List ℕ). l ++ d ∷ []) (sym h.0))))

pub piece_cut : (x : VerilogPiece) (rest : List ℕ) → StandsInVerilog x rest → first_piece (piece_text x ++ rest) ≡ Some x
unfolding first_piece
piece_cut (Blank c) rest h = rw h refl
piece_cut (Line w) rest h =
    let size = run_of (λ b. not (b == 10)) w rest h.0 h.1 in
    ap (λ n. Some (Line (take n (w ++ rest)))) size ∙ ap (λ (l : List ℕ). Some (Line l)) (take-append_seam w rest)
piece_cut (Block w) rest h =
    let regrouped : (w ++ 42 ∷ 47 ∷ []) ++ rest ≡ w ++ 42 ∷ 47 ∷ rest = append_assoc w (42 ∷ 47 ∷ []) rest in
    ap (λ (l : List ℕ). first_piece (47 ∷ 42 ∷ l)) regrouped ∙ ap (block (w ++ 42 ∷ 47 ∷ rest)) (closing_of w rest h) ∙ ap (λ (l : List ℕ). Some (Block l)) (take-append_seam w (42 ∷ 47 ∷ rest))
piece_cut (Lexeme k w) rest h = token_cut k w rest h
