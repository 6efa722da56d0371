-- Declared names are identifiers, and a text has more bytes than declarations.
use Rattle.safl_vread.proofs.Common.{Each, IsFileText, each_join}
use Rattle.std.proofs.Common.{◌≡◌, ℕ, zero, suc, ◌+◌, ◌≤◌, List, [], ◌∷◌, ◌++◌, length, Bool, true, false, cond, ◌==◌, Some, None, refl, sym, ap, subst, ◌∙◌, inl, inr, arith, length-append, slice_get}
use Rattle.std.proofs.Common.{Option}
use Rattle.std.proofs.lemmas.Bool.Decides.{nat_tests, Decides-eqb}
use Rattle.safl_grammar.specs.Sets.{Only, within}
use Rattle.safl_grammar.specs.Syntax.{turns}
use Rattle.safl_net.specs.Names.{is_identifier}
use Rattle.safl_verilog.specs.declared.token.Keyword.{Keyword}
use Rattle.safl_verilog.specs.declared.token.Keyword.TheVariants as keywords
use Rattle.safl_verilog.specs.declared.token.Symbol.{Symbol}
use Rattle.safl_verilog.specs.declared.token.Symbol.TheVariants as symbols
use Rattle.safl_verilog.specs.declared.token.TokenKind.TheVariants as kinds
use Rattle.safl_verilog.specs.Tokens.{IsIdentifier, VerilogPiece, Blank, Line, Block, Lexeme, piece_text, text_of_all, StandAll, VerilogTerminal, tokens_from}
use Rattle.safl_verilog.specs.Files.{Spot, Declaration, File}
use Rattle.safl_verilog.specs.Grammar.{spot, decl, another_decl, file}
use Rattle.safl_verilog.specs.Codes.{keyword_code, symbol_code, code_of, classed}
use Rattle.safl_verilog.proofs.Classes.{identifier_at, identifier_class}
use Rattle.safl_verilog.proofs.Distinct.{each_left, each_right, each_at}

-- ---- tokens that are identifiers

-- a token of the code 1 has the bytes of an identifier
abbrev Named : VerilogTerminal → Type 0
Named t = code_of t.kind ≡ 1 → IsIdentifier t.bytes

keyword_other : (k : Keyword) → keyword_code k ≡ 1 → ⊥
keyword_other keywords.Module h = omega (arith, h)
keyword_other keywords.Endmodule h = omega (arith, h)
keyword_other keywords.Input h = omega (arith, h)
keyword_other keywords.Output h = omega (arith, h)
keyword_other keywords.Reg h = omega (arith, h)
keyword_other keywords.Wire h = omega (arith, h)
keyword_other keywords.Assign h = omega (arith, h)
keyword_other keywords.Always h = omega (arith, h)
keyword_other keywords.Posedge h = omega (arith, h)
keyword_other keywords.If h = omega (arith, h)
keyword_other keywords.Else h = omega (arith, h)

symbol_other : (s : Symbol) → symbol_code s ≡ 1 → ⊥
symbol_other symbols.OpenParen h = omega (arith, h)
symbol_other symbols.CloseParen h = omega (arith, h)
symbol_other symbols.Comma h = omega (arith, h)
symbol_other symbols.Semicolon h = omega (arith, h)
symbol_other symbols.OpenBracket h = omega (arith, h)
symbol_other symbols.CloseBracket h = omega (arith, h)
symbol_other symbols.Colon h = omega (arith, h)
symbol_other symbols.Becomes h = omega (arith, h)
symbol_other symbols.Tilde h = omega (arith, h)
symbol_other symbols.Question h = omega (arith, h)
symbol_other symbols.OpenBrace h = omega (arith, h)
symbol_other symbols.CloseBrace h = omega (arith, h)
symbol_other symbols.At h = omega (arith, h)
symbol_other symbols.Plus h = omega (arith, h)
symbol_other symbols.Minus h = omega (arith, h)
symbol_other symbols.Star h = omega (arith, h)
symbol_other symbols.Ampersand h = omega (arith, h)
symbol_other symbols.Bar h = omega (arith, h)
symbol_other symbols.Caret h = omega (arith, h)
symbol_other symbols.Equal h = omega (arith, h)
symbol_other symbols.NotEqual h = omega (arith, h)
symbol_other symbols.Less h = omega (arith, h)
symbol_other symbols.LessEqual h = omega (arith, h)
symbol_other symbols.Greater h = omega (arith, h)
symbol_other symbols.GreaterEqual h = omega (arith, h)
symbol_other symbols.ShiftLeft h = omega (arith, h)
symbol_other symbols.ShiftRight h = omega (arith, h)

named_tokens : (p : ℕ) (xs : List VerilogPiece) → StandAll xs [] → Each Named (tokens_from p xs)
named_tokens p [] h = tt
named_tokens p (Blank c ∷ xs) h = named_tokens (p + 1) xs h.1
named_tokens p (Line w ∷ xs) h = named_tokens (p + length (piece_text (Line w))) xs h.1
named_tokens p (Block w ∷ xs) h = named_tokens (p + length (piece_text (Block w))) xs h.1
named_tokens p (Lexeme kinds.Identifier w ∷ xs) h = (λ e. h.0.0, named_tokens (p + length w) xs h.1)
named_tokens p (Lexeme kinds.Number w ∷ xs) h = (λ e. absurd (omega (arith, e)), named_tokens (p + length w) xs h.1)
named_tokens p (Lexeme kinds.Sized w ∷ xs) h = (λ e. absurd (omega (arith, e)), named_tokens (p + length w) xs h.1)
named_tokens p (Lexeme (kinds.Keyword k) w ∷ xs) h = (λ e. absurd (keyword_other k e), named_tokens (p + length w) xs h.1)
named_tokens p (Lexeme (kinds.Symbol s) w ∷ xs) h = (λ e. absurd (symbol_other s e), named_tokens (p + length w) xs h.1)

-- ---- how many they are

abbrev one_id : VerilogTerminal → ℕ
one_id t = cond (code_of t.kind == 1) 1 0

abbrev ids_in : List VerilogTerminal → ℕ
ids_in [] = 0
ids_in (t ∷ ts) = one_id t + ids_in ts

ids_join : (u v : List VerilogTerminal) → ids_in (u ++ v) ≡ ids_in u + ids_in v
ids_join [] v = omega arith
ids_join (t ∷ u) v = omega (arith, ids_join u v)

some_long : (w : List ℕ) → is_identifier w ≡ true → 1 ≤ length w
some_long [] h = absurd cc
some_long (b ∷ w) h = omega arith

short_id : (t : VerilogTerminal) → Named t → one_id t ≤ length t.bytes
short_id t h = by (code_of t.kind == 1) refl
  where
    by : (b : Bool) → (code_of t.kind == 1) ≡ b → cond b 1 0 ≤ length t.bytes
    by true e = some_long t.bytes (h ((Decides-eqb (code_of t.kind) 1).0 e)).like
    by false e = omega arith

ids_few : (p : ℕ) (xs : List VerilogPiece) → Each Named (tokens_from p xs) → ids_in (tokens_from p xs) ≤ length (text_of_all xs)
ids_few p [] h = omega arith
ids_few p (Blank c ∷ xs) h = omega (arith, ids_few (p + 1) xs h, length-append (piece_text (Blank c)) (text_of_all xs))
ids_few p (Line w ∷ xs) h = omega (arith, ids_few (p + length (piece_text (Line w))) xs h, length-append (piece_text (Line w)) (text_of_all xs))
ids_few p (Block w ∷ xs) h = omega (arith, ids_few (p + length (piece_text (Block w))) xs h, length-append (piece_text (Block w)) (text_of_all xs))
ids_few p (Lexeme k w ∷ xs) h = omega (arith, short_id (record { place = p; kind = k; bytes = w }) h.0, ids_few (p + length w) xs h.1, length-append w (text_of_all xs))

-- ---- the grammar

id_token : (t : VerilogTerminal) (a : Spot) → classed (1 ∷ []) spot t ≡ Some a → (code_of t.kind ≡ 1) × (spot t ≡ a)
id_token t a h = by (within (Only (1 ∷ [])) (code_of t.kind)) refl h
  where
    is_one : (n : ℕ) → within (Only (1 ∷ [])) n ≡ true → n ≡ 1
    is_one n e = grind (arith, nat_tests)

    by : (b : Bool) → within (Only (1 ∷ [])) (code_of t.kind) ≡ b → cond b (Some (spot t)) None ≡ Some a → (code_of t.kind ≡ 1) × (spot t ≡ a)
    by true e h = (is_one (code_of t.kind) e, cc)
    by false e h = absurd cc

-- the name is an identifier, and there is a token of it
record HasName (w : List VerilogTerminal) (name : Spot) : Type 0 where
  named : IsIdentifier name.bytes
  one : 1 ≤ ids_in w

has_name : (w : List VerilogTerminal) (t : VerilogTerminal) (a : Spot) → Each Named w → w ≡ t ∷ [] → identifier_at t ≡ Some a → HasName w a
has_name w t a h e c =
    let k = id_token t a (sym (ap (λ (f : VerilogTerminal → Option Spot). f t) identifier_class) ∙ c) in
    let n : Each Named (t ∷ []) = subst (λ (l : List VerilogTerminal). Each Named l) e h in
    let one : one_id t ≡ 1 = ap (λ b. cond b 1 0) ((Decides-eqb (code_of t.kind) 1).1 k.0) in
    record {
      named = subst (λ (s : Spot). IsIdentifier s.bytes) k.1 (n.0 k.0);
      one = omega (arith, ap ids_in e, one);
    }

left_part : (w u v : List VerilogTerminal) → w ≡ u ++ v → Each Named w → Each Named u
left_part w u v e h = each_left Named u v (subst (λ (l : List VerilogTerminal). Each Named l) e h)

right_part : (w u v : List VerilogTerminal) → w ≡ u ++ v → Each Named w → Each Named v
right_part w u v e h = each_right Named u v (subst (λ (l : List VerilogTerminal). Each Named l) e h)

parts : (w u v : List VerilogTerminal) → w ≡ u ++ v → ids_in w ≡ ids_in u + ids_in v
parts w u v e = ap ids_in e ∙ ids_join u v

decl_name : (w : List VerilogTerminal) (d : Declaration) → Each Named w → decl.derives w d → HasName w d.name
decl_name w d h (u1, v1, k, e1, s1, (u2, v2, r, e2, s2, (u3, v3, a, e3, (t, et, c), (u4, v4, s, e4, s4, (e5, e6))))) =
    let h1 = right_part w u1 v1 e1 h in
    let h2 = right_part v1 u2 v2 e2 h1 in
    let n = has_name u3 t a (left_part v2 u3 v3 e3 h2) et c in
    record {
      named = subst (λ (x : Declaration). IsIdentifier x.name.bytes) e6 n.named;
      one = omega (arith, n.one, parts w u1 v1 e1, parts v1 u2 v2 e2, parts v2 u3 v3 e3);
    }

abbrev IsNamed : Declaration → Type 0
IsNamed d = IsIdentifier d.name.bytes

turn_names : (k : ℕ) (a ds : List Declaration) (w : List VerilogTerminal) → Each Named w → Each IsNamed a → (turns k another_decl a).derives w ds → Each IsNamed ds × (length ds ≤ length a + ids_in w)
turn_names zero a ds w h g (e, f) = (subst (λ (l : List Declaration). Each IsNamed l) f g, omega (arith, ap length f))
turn_names (suc k) a ds w h g (inr (e, f)) = (subst (λ (l : List Declaration). Each IsNamed l) f g, omega (arith, ap length f))
turn_names (suc k) a ds w h g (inl (u, v, b, e, (u1, v1, d, e1, s1, (e2, f2)), rest)) =
    let n = decl_name u1 d (left_part u u1 v1 e1 (left_part w u v e h)) s1 in
    let more : Each IsNamed b = subst (λ (l : List Declaration). Each IsNamed l) f2 (each_join IsNamed a (d ∷ []) g (n.named, tt)) in
    let m = turn_names k b ds v (right_part w u v e h) more rest in
    (m.0, omega (arith, m.1, n.one, parts w u v e, parts u u1 v1 e1, ap length f2, length-append a (d ∷ [])))

file_names : (w : List VerilogTerminal) (f : File) → Each Named w → file.derives w f → Each IsNamed f.declarations × (1 + length f.declarations ≤ ids_in w)
file_names w f h (
  u1,
  v1,
  k,
  e1,
  s1,
  (
    u2,
    v2,
    x,
    e2,
    (t, et, c),
    (
      u3,
      v3,
      o,
      e3,
      s3,
      (
        u4,
        v4,
        hs,
        e4,
        s4,
        (
          u5,
          v5,
          p,
          e5,
          s5,
          (u6, v6, s, e6, s6, (u7, v7, ds, e7, (n7, s7), (u8, v8, ss, e8, s8, (u9, v9, z, e9, s9, (ea, eb))))),
        ),
      ),
    ),
  ),
) =
    let h1 = right_part w u1 v1 e1 h in
    let h2 = right_part v1 u2 v2 e2 h1 in
    let h3 = right_part v2 u3 v3 e3 h2 in
    let h4 = right_part v3 u4 v4 e4 h3 in
    let h5 = right_part v4 u5 v5 e5 h4 in
    let h6 = right_part v5 u6 v6 e6 h5 in
    let n = has_name u2 t x (left_part v1 u2 v2 e2 h1) et c in
    let m = turn_names n7 [] ds u7 (left_part v6 u7 v7 e7 h6) tt s7 in
    let same : ds ≡ f.declarations = ap (λ (y : File). y.declarations) eb in (
      subst (λ (l : List Declaration). Each IsNamed l) same m.0,
      omega (arith, n.one, m.1, ap length same, parts w u1 v1 e1, parts v1 u2 v2 e2, parts v2 u3 v3 e3, parts v3 u4 v4 e4, parts v4 u5 v5 e5, parts v5 u6 v6 e6, parts v6 u7 v7 e7),
    )

-- ---- texts

text_facts : (text : List ℕ) (f : File) → IsFileText text f → Each IsNamed f.declarations × (1 + length f.declarations ≤ length text)
text_facts text f h =
    let all : Each Named h.tokens = subst (λ (l : List VerilogTerminal). Each Named l) (sym h.cut.tokens) (named_tokens 0 h.cut.pieces h.cut.stand) in
    let k = file_names h.tokens f all h.derived.derived.1 in
    let few = ids_few 0 h.cut.pieces (named_tokens 0 h.cut.pieces h.cut.stand) in
    (k.0, omega (arith, k.1, few, ap ids_in h.cut.tokens, ap length h.cut.joined))

pub declared_identifier : (text : List ℕ) (f : File) → IsFileText text f → (i : ℕ) (d : Declaration) → slice_get f.declarations i ≡ Some d → IsIdentifier d.name.bytes
declared_identifier text f h i d at = each_at IsNamed f.declarations i d (text_facts text f h).0 at

pub declared_few : (text : List ℕ) (f : File) → IsFileText text f → 1 + length f.declarations ≤ length text
declared_few text f h = (text_facts text f h).1
