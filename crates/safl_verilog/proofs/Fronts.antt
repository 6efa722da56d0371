-- Where a front of a text ends: between two of the text's pieces, or within one.
use Rattle.safl_verilog.proofs.Common.{TokenKind, is_digit, is_part, ◌⊎◌}
use Rattle.std.proofs.Common.{◌≡◌, ℕ, List, [], ◌∷◌, ◌++◌, Bool, true, not, ◌==◌, None, refl, sym, ap, subst, ◌∙◌, inl, inr, append_assoc}
use Rattle.safl_verilog.specs.declared.token.TokenKind.TheVariants as kinds
use Rattle.safl_verilog.specs.Tokens.{stops, next_base, IsVerilogToken, VerilogPiece, Blank, Line, Block, Lexeme, piece_text, text_of_all, StandsInVerilog, StandAll}

-- of two fronts of a text, the second goes on after the first, or ends within it
pub either_front : (a b f r : List ℕ) → a ++ b ≡ f ++ r → ((g : List ℕ) × (f ≡ a ++ g) × (b ≡ g ++ r)) ⊎ ((c : ℕ) × (v : List ℕ) × (a ≡ f ++ c ∷ v))
either_front [] b f r e = inl (f, refl, e)
either_front (x ∷ a) b [] r e = inr (x, a, refl)
either_front (x ∷ a) b (y ∷ f) r e =
    let first : x ≡ y = cc in
    let more : a ++ b ≡ f ++ r = cc in
    elim (either_front a b f r more) [
      | inl h ↦ inl (h.0, ap (λ (l : List ℕ). y ∷ l) h.1 ∙ ap (λ (c : ℕ). c ∷ a ++ h.0) (sym first), h.2)
      | inr h ↦ inr (h.0, h.1, ap (λ (c : ℕ). c ∷ a) first ∙ ap (λ (l : List ℕ). y ∷ l) h.2)
    ]

-- ---- what stands before a text stands before each front of it

stops_front : (p : ℕ → Bool) (f r : List ℕ) → stops p (f ++ r) ≡ true → stops p f ≡ true
stops_front p [] r h = refl
stops_front p (c ∷ f) r h = h

base_front : (f r : List ℕ) → next_base (f ++ r) ≡ None → next_base f ≡ None
base_front [] r h = refl
base_front (q ∷ []) r h = refl
base_front (q ∷ (b ∷ [])) r h = refl
base_front (q ∷ (b ∷ (d ∷ f))) r h = h

token_front : (k : TokenKind) (w f r : List ℕ) → IsVerilogToken k w (f ++ r) → IsVerilogToken k w f
token_front kinds.Identifier w f r h = (h.0, stops_front is_part f r h.1)
token_front kinds.Number w f r h = (h.0, stops_front (is_digit 10) f r h.1, base_front f r h.2)
token_front kinds.Sized w f r h = (h.0, h.1, h.2, stops_front (is_digit h.0.base) f r h.3)
token_front (kinds.Keyword k) w f r h = (h.0, stops_front is_part f r h.1)
token_front (kinds.Symbol s) w f r h = (h.0, λ t c v e. h.1 t c (v ++ r) (ap (λ (l : List ℕ). l ++ r) e))

stands_front : (x : VerilogPiece) (f r : List ℕ) → StandsInVerilog x (f ++ r) → StandsInVerilog x f
stands_front (Blank c) f r h = h
stands_front (Line w) f r h = (h.0, stops_front (λ c. not (c == 10)) f r h.1)
stands_front (Block w) f r h = h
stands_front (Lexeme k w) f r h = token_front k w f r h

-- ---- the front

-- a part of a piece, with the piece and what follows it
pub record Inside (part : List ℕ) (more : List VerilogPiece) : Type 0 where
  pub piece : VerilogPiece
  pub later : List VerilogPiece
  pub next : ℕ
  pub left : List ℕ
  pub parts : more ≡ piece ∷ later
  pub stands : StandsInVerilog piece (text_of_all later ++ [])
  pub cut : piece_text piece ≡ part ++ next ∷ left

-- some pieces, and then no more or a part of the next one
pub record Front (xs : List VerilogPiece) (f : List ℕ) : Type 0 where
  pub pieces : List VerilogPiece
  pub more : List VerilogPiece
  pub part : List ℕ
  pub joined : xs ≡ pieces ++ more
  pub text : f ≡ text_of_all pieces ++ part
  pub stand : StandAll pieces part
  pub ends : (part ≡ []) ⊎ Inside part more

longer : (x : VerilogPiece) (xs : List VerilogPiece) (f g r : List ℕ) → f ≡ piece_text x ++ g → text_of_all xs ++ [] ≡ g ++ r → StandsInVerilog x (text_of_all xs ++ []) → Front xs g → Front (x ∷ xs) f
longer x xs f g r e j h k = record {
  pieces = x ∷ k.pieces;
  more = k.more;
  part = k.part;
  joined = ap (λ (l : List VerilogPiece). x ∷ l) k.joined;
  text = e ∙ ap (λ (l : List ℕ). piece_text x ++ l) k.text ∙ sym (append_assoc (piece_text x) (text_of_all k.pieces) k.part);
  stand = (subst (λ (l : List ℕ). StandsInVerilog x l) k.text (stands_front x g r (subst (λ (l : List ℕ). StandsInVerilog x l) j h)), k.stand);
  ends = k.ends;
}

pub front_of : (xs : List VerilogPiece) (f r : List ℕ) → StandAll xs [] → text_of_all xs ++ [] ≡ f ++ r → Front xs f
front_of [] [] r h e = record { pieces = []; more = []; part = []; joined = refl; text = refl; stand = tt; ends = inl refl }
front_of [] (c ∷ f) r h e = absurd cc
front_of (x ∷ xs) f r h e =
    elim (either_front (piece_text x) (text_of_all xs ++ []) f r (sym (append_assoc (piece_text x) (text_of_all xs) []) ∙ e)) [
      | inl k ↦ longer x xs f k.0 r k.1 k.2 h.0 (front_of xs k.0 r h.1 k.2)
      | inr k ↦ record {
        pieces = [];
        more = x ∷ xs;
        part = f;
        joined = refl;
        text = refl;
        stand = tt;
        ends = inr
            (record { piece = x; later = xs; next = k.0; left = k.1; parts = refl; stands = h.0; cut = k.2 });
      }
    ]
