-- A text is cut into tokens in at most one way, and it is or it has a first place where it is not.
use Rattle.safl_verilog.proofs.Common.{TokenKind, append-nil, drop-append_seam, is_identifier, same_Some, ◌⊎◌}
use Rattle.std.proofs.Common.{◌≡◌, ℕ, zero, suc, ◌≤◌, List, [], ◌∷◌, ◌++◌, length, drop, true, false, Some, None, Option, refl, sym, ap, subst, ◌∙◌, arith, inl, inr, append_assoc, length-append}
use Rattle.safl_verilog.specs.declared.token.TokenKind.TheVariants as kinds
use Rattle.safl_verilog.specs.Tokens.{IsVerilogToken, VerilogPiece, Blank, Line, Block, Lexeme, piece_text}
use Rattle.safl_verilog.specs.Tokens.{text_of_all, StandsInVerilog, StandAll, VerilogTerminal, tokens_from, HasVerilogTokens, HasVerilogLexicalFault}
use Rattle.safl_verilog.specs.Pieces.{first_piece}
use Rattle.safl_verilog.proofs.Found.{Cut, piece_found}
use Rattle.safl_verilog.proofs.Cutting.{piece_cut}
use Rattle.safl_verilog.proofs.Symbols.{keyword_like, symbol_some}

-- no piece is empty
no_empty_token : (k : TokenKind) (rest : List ℕ) → IsVerilogToken k [] rest → ⊥
no_empty_token kinds.Identifier rest h = let f : false ≡ true = h.0.like in cc
no_empty_token kinds.Number rest h = let f : 1 ≤ 0 = h.0.some in omega arith
no_empty_token kinds.Sized rest h = let f = ap length h.1 ∙ length-append h.0.width (39 ∷ h.0.letter ∷ h.0.digits) in omega (arith, f)
no_empty_token (kinds.Keyword k) rest h = let f : false ≡ true = ap is_identifier h.0 ∙ keyword_like k in cc
no_empty_token (kinds.Symbol s) rest h = let f = ap length h.0 in omega (arith, f, symbol_some s)

pub no_empty : (x : VerilogPiece) (rest : List ℕ) → StandsInVerilog x rest → 1 ≤ length (piece_text x)
no_empty (Blank c) rest h = omega arith
no_empty (Line w) rest h = omega arith
no_empty (Block w) rest h = omega arith
no_empty (Lexeme k []) rest h = absurd (no_empty_token k rest h)
no_empty (Lexeme k (c ∷ w)) rest h = omega arith

pub same_piece : (x y : VerilogPiece) (u v : List ℕ) → StandsInVerilog x u → StandsInVerilog y v → piece_text x ++ u ≡ piece_text y ++ v → (x ≡ y) × (u ≡ v)
same_piece x y u v h k e =
    let same : x ≡ y = same_Some _ _ (sym (piece_cut x u h) ∙ ap first_piece e ∙ piece_cut y v k) in
    let e2 : piece_text y ++ u ≡ piece_text y ++ v = ap (λ (z : VerilogPiece). piece_text z ++ u) (sym same) ∙ e in
    (same, sym (drop-append_seam (piece_text y) u) ∙ ap (λ (l : List ℕ). drop (length (piece_text y)) l) e2 ∙ drop-append_seam (piece_text y) v)

-- no piece begins here
abbrev pub Final : List ℕ → Type 0
Final r = (x : VerilogPiece) (after : List ℕ) → r ≡ piece_text x ++ after → ¬ StandsInVerilog x after

pub final_end : Final []
final_end x after e h = let f = ap length e ∙ length-append (piece_text x) after in omega (arith, f, no_empty x after h)

-- a text is cut in one way, up to where no piece begins
pub same_pieces : (xs ys : List VerilogPiece) (r s : List ℕ) → StandAll xs r → StandAll ys s → Final r → Final s → text_of_all xs ++ r ≡ text_of_all ys ++ s → (xs ≡ ys) × (r ≡ s)
same_pieces [] [] r s h k f g e = (refl, e)
same_pieces [] (y ∷ ys) r s h k f g e = absurd (f y (text_of_all ys ++ s) (e ∙ append_assoc (piece_text y) (text_of_all ys) s) k.0)
same_pieces (x ∷ xs) [] r s h k f g e = absurd (g x (text_of_all xs ++ r) (sym e ∙ append_assoc (piece_text x) (text_of_all xs) r) h.0)
same_pieces (x ∷ xs) (y ∷ ys) r s h k f g e =
    let e2 = sym (append_assoc (piece_text x) (text_of_all xs) r) ∙ e ∙ append_assoc (piece_text y) (text_of_all ys) s in
    let first = same_piece x y (text_of_all xs ++ r) (text_of_all ys ++ s) h.0 k.0 e2 in
    let more = same_pieces xs ys r s h.1 k.1 f g first.1 in
    (ap (λ (z : VerilogPiece). z ∷ xs) first.0 ∙ ap (λ (l : List VerilogPiece). y ∷ l) more.0, more.1)

-- a text is cut up to where no piece begins
pub record Split (w : List ℕ) : Type 0 where
  pub pieces : List VerilogPiece
  pub rest : List ℕ
  pub joined : w ≡ text_of_all pieces ++ rest
  pub stand : StandAll pieces rest
  pub final : Final rest

pub stuck : (w : List ℕ) → first_piece w ≡ None → Final w
stuck w e x after j h = let f : None ≡ Some x = sym e ∙ ap first_piece j ∙ piece_cut x after h in cc

longer : (w : List ℕ) (x : VerilogPiece) → (c : Cut w x) → Split c.rest → Split w
longer w x c s = record {
  pieces = x ∷ s.pieces;
  rest = s.rest;
  joined = c.joined ∙ ap (λ (l : List ℕ). piece_text x ++ l) s.joined ∙ sym (append_assoc (piece_text x) (text_of_all s.pieces) s.rest);
  stand = (subst (λ (l : List ℕ). StandsInVerilog x l) s.joined c.stands, s.stand);
  final = s.final;
}

split_within : (k : ℕ) (w : List ℕ) → length w ≤ k → Split w
split_within zero [] h = record { pieces = []; rest = []; joined = refl; stand = tt; final = final_end }
split_within zero (c ∷ w) h = absurd (omega arith)
split_within (suc k) w h = go (first_piece w) refl (λ v g. split_within k v g)
  where
    go : (o : Option VerilogPiece) → first_piece w ≡ o → ((v : List ℕ) → length v ≤ k → Split v) → Split w
    go None e f = record { pieces = []; rest = w; joined = refl; stand = tt; final = stuck w e }
    go (Some x) e f =
        let c = piece_found w x e in
        let size = ap length c.joined ∙ length-append (piece_text x) c.rest in
        longer w x c (f c.rest (omega (arith, size, no_empty x c.rest c.stands)))

pub split : (w : List ℕ) → Split w
split w = split_within (length w) w (omega arith)

-- ---- tokens, or a fault

whole : (xs : List VerilogPiece) (text : List ℕ) → text ≡ text_of_all xs → text ≡ text_of_all xs ++ []
whole xs text e = e ∙ sym (append-nil (text_of_all xs))

pub tokens_once : (text : List ℕ) (ts us : List VerilogTerminal) → HasVerilogTokens text ts → HasVerilogTokens text us → ts ≡ us
tokens_once text ts us a b =
    let e = sym (whole a.pieces text a.joined) ∙ whole b.pieces text b.joined in
    let same = same_pieces a.pieces b.pieces [] [] a.stand b.stand final_end final_end e in
    a.tokens ∙ ap (tokens_from 0) same.0 ∙ sym b.tokens

pub tokens_or_fault : (text : List ℕ) → ((ts : List VerilogTerminal) × HasVerilogTokens text ts) ⊎ ((p : ℕ) × HasVerilogLexicalFault text p)
tokens_or_fault text = go (split text)
  where
    go : Split text → ((ts : List VerilogTerminal) × HasVerilogTokens text ts) ⊎ ((p : ℕ) × HasVerilogLexicalFault text p)
    go s = at_rest s.pieces s.rest s.joined s.stand s.final
      where
        at_rest : (xs : List VerilogPiece) (r : List ℕ) → text ≡ text_of_all xs ++ r → StandAll xs r → Final r
            → ((ts : List VerilogTerminal) × HasVerilogTokens text ts) ⊎ ((p : ℕ) × HasVerilogLexicalFault text p)
        at_rest xs [] j h f = inl (tokens_from 0 xs, record { pieces = xs; joined = j ∙ append-nil (text_of_all xs); stand = h; tokens = refl })
        at_rest xs (c ∷ r) j h f = inr (length (text_of_all xs), record { pieces = xs; rest = c ∷ r; joined = j; stand = h; place_is = refl; some = omega arith; foreign = f })

pub fault_once : (text : List ℕ) (p q : ℕ) → HasVerilogLexicalFault text p → HasVerilogLexicalFault text q → p ≡ q
fault_once text p q a b =
    let same = same_pieces a.pieces b.pieces a.rest b.rest a.stand b.stand a.foreign b.foreign (sym a.joined ∙ b.joined) in
    a.place_is ∙ ap (λ xs. length (text_of_all xs)) same.0 ∙ sym b.place_is

pub not_cut : (text : List ℕ) (ts : List VerilogTerminal) (p : ℕ) → HasVerilogTokens text ts → HasVerilogLexicalFault text p → ⊥
not_cut text ts p a b =
    let same = same_pieces a.pieces b.pieces [] b.rest a.stand b.stand final_end b.foreign (sym (whole a.pieces text a.joined) ∙ b.joined) in
    let size = ap length same.1 in
    omega (arith, size, b.some)
