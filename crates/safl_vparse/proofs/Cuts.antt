-- A text that is cut piece by piece.
use Rattle.safl_vparse.proofs.Common.{Front, Token, TokenKind}
use Rattle.std.proofs.Common.{◌≡◌, ℕ, ◌+◌, ◌-◌, ◌<◌, ◌≤◌, List, [], ◌∷◌, ◌++◌, length, take, drop, Some, None, Option, refl, sym, ap, subst, ◌∙◌}
use Rattle.std.proofs.Common.{arith, append_assoc, length-append, length-drop, drop-drop}
use Rattle.std.proofs.Math.Seq.{take-append_seam, drop-append_seam}
use Rattle.std.proofs.Math.ListN.{drop_of_length-le}
use Rattle.std.proofs.lemmas.List.{append-nil, map-append}
use Rattle.safl_verilog.specs.Tokens.{VerilogPiece, Blank, Line, Block, Lexeme, piece_text}
use Rattle.safl_verilog.specs.Tokens.{text_of_all, StandsInVerilog, StandAll, VerilogTerminal, tokens_from, HasVerilogTokens, HasVerilogLexicalFault}
use Rattle.safl_verilog.specs.Pieces.{first_piece}
use Rattle.safl_verilog.proofs.Found.{Cut, piece_found}
use Rattle.safl_verilog.proofs.PrintedStands.{text_append, stand_append}
use Rattle.safl_verilog.proofs.Texts.{stuck, no_empty}
use Rattle.safl_vparse.specs.declared.front.Front.TheVariants as fronts
use Rattle.safl_vparse.specs.Fronts.{measured, IsCutUpTo}
use Rattle.safl_vparse.specs.Shown.{shown_token, shown_all}

tokens_after : (xs ys : List VerilogPiece) (p : ℕ) → tokens_from p (xs ++ ys) ≡ tokens_from p xs ++ tokens_from (p + length (text_of_all xs)) ys
tokens_after [] ys p = ap (λ k. tokens_from k ys) (omega arith)
tokens_after (Blank c ∷ xs) ys p =
    let k : p + 1 + length (text_of_all xs) ≡ p + length (text_of_all (Blank c ∷ xs)) = omega arith in
    tokens_after xs ys (p + 1) ∙ ap (λ k. tokens_from (p + 1) xs ++ tokens_from k ys) k
tokens_after (Line w ∷ xs) ys p =
    let k : p + length (piece_text (Line w)) + length (text_of_all xs) ≡ p + length (text_of_all (Line w ∷ xs)) = omega (arith, length-append (piece_text (Line w)) (text_of_all xs)) in
    tokens_after xs ys (p + length (piece_text (Line w))) ∙ ap (λ k. tokens_from (p + length (piece_text (Line w))) xs ++ tokens_from k ys) k
tokens_after (Block w ∷ xs) ys p =
    let k : p + length (piece_text (Block w)) + length (text_of_all xs) ≡ p + length (text_of_all (Block w ∷ xs)) = omega (arith, length-append (piece_text (Block w)) (text_of_all xs)) in
    tokens_after xs ys (p + length (piece_text (Block w))) ∙ ap (λ k. tokens_from (p + length (piece_text (Block w))) xs ++ tokens_from k ys) k
tokens_after (Lexeme k w ∷ xs) ys p =
    let j : p + length w + length (text_of_all xs) ≡ p + length (text_of_all (Lexeme k w ∷ xs)) = omega (arith, length-append w (text_of_all xs)) in
    ap (λ (l : List VerilogTerminal). record { place = p; kind = k; bytes = w } ∷ l) (tokens_after xs ys (p + length w) ∙ ap (λ i. tokens_from (p + length w) xs ++ tokens_from i ys) j)

-- one more piece
record Further (text : List ℕ) (p : ℕ) (x : VerilogPiece) (pieces : List VerilogPiece) : Type 0 where
  joined : text ≡ text_of_all (pieces ++ x ∷ []) ++ drop (p + length (piece_text x)) text
  stand : StandAll (pieces ++ x ∷ []) (drop (p + length (piece_text x)) text)
  place : p + length (piece_text x) ≡ length (text_of_all (pieces ++ x ∷ []))
  within : p + length (piece_text x) ≤ length text
  front : take (length (piece_text x)) (drop p text) ≡ piece_text x

further : (text : List ℕ) (p : ℕ) (ts : List Token) (x : VerilogPiece) → p ≤ length text → (k : IsCutUpTo text p ts) → Cut (drop p text) x → Further text p x k.pieces
further text p ts x le k c =
    let size : length (drop p text) ≡ length (piece_text x) + length c.rest = ap length c.joined ∙ length-append (piece_text x) c.rest in
    let rest : drop (p + length (piece_text x)) text ≡ c.rest = sym (drop-drop (length (piece_text x)) p text) ∙ ap
    (λ (l : List ℕ). drop (length (piece_text x)) l) c.joined ∙ drop-append_seam (piece_text x) c.rest in
    let all : text_of_all (k.pieces ++ x ∷ []) ≡ text_of_all k.pieces ++ piece_text x = text_append k.pieces (x ∷ []) ∙ ap (λ (l : List ℕ). text_of_all k.pieces ++ l) (append-nil (piece_text x)) in
    let one : StandsInVerilog x c.rest = c.stands in
    let before : drop p text ≡ text_of_all (x ∷ []) ++ c.rest = c.joined ∙ ap (λ (l : List ℕ). l ++ c.rest) (sym (append-nil (piece_text x))) in
    record {
      joined = k.joined ∙ ap (λ (l : List ℕ). text_of_all k.pieces ++ l) c.joined ∙ sym (append_assoc (text_of_all k.pieces) (piece_text x) c.rest) ∙ ap
          (λ (l : List ℕ). l ++ c.rest) (sym all) ∙ ap (λ (l : List ℕ). text_of_all (k.pieces ++ x ∷ []) ++ l) (sym rest);
      stand = subst (λ (l : List ℕ). StandAll (k.pieces ++ x ∷ []) l) (sym rest) (stand_append k.pieces (x ∷ []) c.rest (subst (λ (l : List ℕ). StandAll k.pieces l) before k.stand) (one, tt));
      place = omega (arith, k.place, ap length all, length-append (text_of_all k.pieces) (piece_text x));
      within = omega (arith, size, length-drop p text);
      front = ap (λ (l : List ℕ). take (length (piece_text x)) l) c.joined ∙ take-append_seam (piece_text x) c.rest;
    }

-- what a piece is, by its length
found_as : (w : List ℕ) (f : Front) → (f ≡ fronts.Stuck → ⊥) → f ≡ measured (first_piece w) → (x : VerilogPiece) × (first_piece w ≡ Some x) × (f ≡ measured (Some x))
found_as w f some e = go (first_piece w) refl e
  where
    go : (o : Option VerilogPiece) → first_piece w ≡ o → f ≡ measured o → (x : VerilogPiece) × (first_piece w ≡ Some x) × (f ≡ measured (Some x))
    go None h e = absurd (some e)
    go (Some x) h e = (x, h, e)

-- ---- a blank or a comment

no_token : (x : VerilogPiece) (n p : ℕ) → fronts.Gap n ≡ measured (Some x) → (length (piece_text x) ≡ n) × (tokens_from p (x ∷ []) ≡ [])
no_token (Blank c) n p e = let g : fronts.Gap n ≡ fronts.Gap 1 = cc in (sym (cc), refl)
no_token (Line w) n p e = let g : n ≡ 2 + length w = cc in (omega (arith, g), refl)
no_token (Block w) n p e = let g : n ≡ length w + 4 = cc in (omega (arith, g, length-append w (42 ∷ 47 ∷ [])), refl)
no_token (Lexeme k w) n p e = absurd cc

pub goes_over : (text w : List ℕ) (p n : ℕ) (ts : List Token) → w ≡ drop p text → p ≤ length text → IsCutUpTo text p ts → fronts.Gap n ≡ measured
    (first_piece w) → (p + n ≤ length text) × IsCutUpTo text (p + n) ts × (1 ≤ n)
goes_over text w p n ts e le k h =
    let x = found_as w (fronts.Gap n) (λ e. cc) h in
    let c = piece_found (drop p text) x.0 (ap first_piece (sym e) ∙ x.1) in
    let f = further text p ts x.0 le k c in
    let s = no_token x.0 n (0 + length (text_of_all k.pieces)) x.2 in
    let g : (p + length (piece_text x.0) ≤ length text) × IsCutUpTo text (p + length (piece_text x.0)) ts × (1 ≤ length (piece_text x.0)) = (
      f.within,
      record {
        pieces = k.pieces ++ x.0 ∷ [];
        joined = f.joined;
        stand = f.stand;
        place = f.place;
        tokens = k.tokens ∙ sym (append-nil (tokens_from 0 k.pieces)) ∙ ap (λ (l : List VerilogTerminal). tokens_from 0 k.pieces ++ l) (sym s.1) ∙ sym (tokens_after k.pieces (x.0 ∷ []) 0);
      },
      no_empty x.0 c.rest c.stands,
    ) in
    subst (λ m. (p + m ≤ length text) × IsCutUpTo text (p + m) ts × (1 ≤ m)) s.0 g

-- ---- a token

is_token : (x : VerilogPiece) (kind : TokenKind) (n : ℕ) → fronts.Found kind n ≡ measured (Some x) → (w : List ℕ) × (x ≡ Lexeme kind w) × (length w ≡ n)
is_token (Blank c) kind n e = absurd cc
is_token (Line w) kind n e = absurd cc
is_token (Block w) kind n e = absurd cc
is_token (Lexeme k w) kind n e = let a : kind ≡ k = cc in let b : n ≡ length w = cc in (w, ap (λ k. Lexeme k w) (sym a), sym b)

pub takes : (text w : List ℕ) (p n : ℕ) (kind : TokenKind) (ts us : List Token) → w ≡ drop p text → p ≤ length text → IsCutUpTo text p ts →
    fronts.Found kind n ≡ measured (first_piece w) → us ≡ ts ++ (record { start = p; stop = p + n; kind = kind }) ∷ [] → (p + n ≤ length text) ×
    IsCutUpTo text (p + n) us × (1 ≤ n)
takes text w p n kind ts us e le k h more =
    let x = found_as w (fronts.Found kind n) (λ e. cc) h in
    let t = is_token x.0 kind n x.2 in
    let c = subst (λ y. Cut (drop p text) y) t.1 (piece_found (drop p text) x.0 (ap first_piece (sym e) ∙ x.1)) in
    let f = further text p ts (Lexeme kind t.0) le k c in
    let size : p + n - p ≡ length t.0 = omega (arith, t.2) in
    let bytes : take (p + n - p) (drop p text) ≡ t.0 = ap (λ j. take j (drop p text)) size ∙ f.front in
    let here : p ≡ 0 + length (text_of_all k.pieces) = omega (arith, k.place) in
    let last : shown_token text (record { start = p; stop = p + n; kind = kind }) ≡ record
    { place = 0 + length (text_of_all k.pieces); kind = kind; bytes = t.0 } = ap (λ (b : List ℕ). record { place = p; kind = kind; bytes = b })
    bytes ∙ ap (λ q. record { place = q; kind = kind; bytes = t.0 }) here in
    let g : (p + length t.0 ≤ length text) × IsCutUpTo text (p + length t.0) us × (1 ≤ length t.0) = (
      f.within,
      record {
        pieces = k.pieces ++ Lexeme kind t.0 ∷ [];
        joined = f.joined;
        stand = f.stand;
        place = f.place;
        tokens = ap (shown_all text) more ∙ map-append (shown_token text) ts _ ∙ ap
            (λ (l : List VerilogTerminal). l ++ shown_all text (record { start = p; stop = p + n; kind = kind } ∷ [])) k.tokens ∙ ap
            (λ y. tokens_from 0 k.pieces ++ y ∷ []) last ∙ sym (tokens_after k.pieces (Lexeme kind t.0 ∷ []) 0);
      },
      no_empty (Lexeme kind t.0) c.rest c.stands,
    ) in
    subst (λ m. (p + m ≤ length text) × IsCutUpTo text (p + m) us × (1 ≤ m)) t.2 g

-- ---- no piece

nothing_found : (o : Option VerilogPiece) → fronts.Stuck ≡ measured o → o ≡ None
nothing_found None e = refl
nothing_found (Some (Blank c)) e = absurd cc
nothing_found (Some (Line w)) e = absurd cc
nothing_found (Some (Block w)) e = absurd cc
nothing_found (Some (Lexeme k w)) e = absurd cc

pub stops_at : (text w : List ℕ) (p : ℕ) (ts : List Token) → w ≡ drop p text → p < length text → IsCutUpTo text p ts → fronts.Stuck ≡ measured (first_piece w) → HasVerilogLexicalFault text p
stops_at text w p ts e lt k h = record {
  pieces = k.pieces;
  rest = drop p text;
  joined = k.joined;
  stand = k.stand;
  place_is = k.place;
  some = omega (arith, length-drop p text);
  foreign = stuck (drop p text) (ap first_piece (sym e) ∙ nothing_found (first_piece w) h);
}

pub whole : (text : List ℕ) (p : ℕ) (ts : List Token) → length text ≤ p → IsCutUpTo text p ts → HasVerilogTokens text (shown_all text ts)
whole text p ts le k =
    let none : drop p text ≡ [] = drop_of_length-le text le in
    record {
      pieces = k.pieces;
      joined = k.joined ∙ ap (λ (l : List ℕ). text_of_all k.pieces ++ l) none ∙ append-nil (text_of_all k.pieces);
      stand = subst (λ (l : List ℕ). StandAll k.pieces l) none k.stand;
      tokens = k.tokens;
    }

-- a token that is found stands within the text, and isn't empty
pub token_within : (text w : List ℕ) (p n : ℕ) (kind : TokenKind) → w ≡ drop p text → fronts.Found kind n ≡ measured (first_piece w) → (n ≤ length text - p) × (1 ≤ n)
token_within text w p n kind e h =
    let x = found_as w (fronts.Found kind n) (λ e. cc) h in
    let t = is_token x.0 kind n x.2 in
    let c = subst (λ y. Cut (drop p text) y) t.1 (piece_found (drop p text) x.0 (ap first_piece (sym e) ∙ x.1)) in
    let size = ap length c.joined ∙ length-append t.0 c.rest in
    (omega (arith, size, length-drop p text, t.2), omega (arith, t.2, no_empty (Lexeme kind t.0) c.rest c.stands))
