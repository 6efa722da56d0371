-- Where the tokens of a cut text lie.
use Rattle.std.proofs.Common.{◌≡◌, ℕ, ◌+◌, ◌-◌, ◌≤◌, List, [], ◌∷◌, ◌++◌, length, take, drop, slice_range, refl, sym, ◌∙◌, ap, subst, arith, append_assoc, length-append}
use Rattle.std.proofs.lemmas.List.{append-nil}
use Rattle.std.proofs.Math.Seq.{take-append_seam, drop-append_seam}
use Rattle.safl_word.specs.Tokens.{IsToken, Piece, Blank, Comment, Lexeme, text_of, text_of_all, StandAll, tokens_from, HasTokens}
use Rattle.safl_word.specs.declared.token.Token.{Token}
use Rattle.safl_word.specs.declared.token.TokenKind.{TokenKind}
use Rattle.safl_word.proofs.OneKind.{token_like}
use Rattle.safl_word.proofs.Cuts.{token_some}
use Rattle.std.proofs.Math.ListN.{drop_of_length-le}
use Rattle.safl_word.proofs.Lists.{not_empty}
use Rattle.safl_text.specs.Fronts.{IsGap, IsCutUpTo}
use Rattle.safl_text.specs.Spans.{LieInOrder, AreJoined}

-- one more blank or comment before the rest
gap_before : (p q : ℕ) (x : Piece) (ts : List Token) (text : List ℕ) → IsGap x → q ≡ p + length (text_of x) → AreJoined q ts text → AreJoined p ts (text_of x ++ text)
gap_before p q x [] text g e (xs, h, j) = (x ∷ xs, (g, h), ap (λ w. text_of x ++ w) j)
gap_before p q x (t ∷ ts) text g e (gap, w, rest, j, (xs, h, k), s, o, r) = (
  text_of x ++ gap,
  w,
  rest,
  ap (λ v. text_of x ++ v) j ∙ sym (append_assoc (text_of x) gap (w ++ rest)),
  (x ∷ xs, (g, h), ap (λ v. text_of x ++ v) k),
  s ∙ ap (λ n. n + length gap) e ∙ joined_length (text_of x) gap,
  o,
  r,
)
  where
    joined_length : (u v : List ℕ) → p + length u + length v ≡ p + length (u ++ v)
    joined_length u v = omega (arith, length-append u v)

pieces_joined : (p : ℕ) (xs : List Piece) → AreJoined p (tokens_from p xs) (text_of_all xs)
pieces_joined p [] = ([], tt, refl)
pieces_joined p (Blank c ∷ xs) = gap_before p (p + 1) (Blank c) (tokens_from (p + 1) xs) (text_of_all xs) tt refl (pieces_joined (p + 1) xs)
pieces_joined p (Comment w ∷ xs) =
    gap_before p (p + length (47 ∷ 47 ∷ w)) (Comment w) (tokens_from (p + length (47 ∷ 47 ∷ w)) xs) (text_of_all xs) tt refl (pieces_joined (p + length (47 ∷ 47 ∷ w)) xs)
pieces_joined p (Lexeme k w ∷ xs) = ([], w, text_of_all xs, refl, ([], tt, refl), omega arith, refl, pieces_joined (p + length w) xs)

pub tokens_joined : (text : List ℕ) (ts : List Token) → HasTokens text ts → AreJoined 0 ts text
tokens_joined text ts h = subst (λ us. AreJoined 0 us text) (sym h.tokens) (subst (AreJoined 0 (tokens_from 0 h.pieces)) (sym h.joined) (pieces_joined 0 h.pieces))

-- the bytes of a part
part : (u w v : List ℕ) (p q : ℕ) → p ≡ length u → q ≡ p + length w → slice_range (u ++ (w ++ v)) p q ≡ w
part u w v p q e f =
    let k : q - p ≡ length w = omega arith in
    let d : drop p (u ++ (w ++ v)) ≡ w ++ v = ap (λ n. drop n (u ++ (w ++ v))) e ∙ drop-append_seam u (w ++ v) in
    (λ i. take (k i) (d i)) ∙ take-append_seam w v

some_bytes : (k : TokenKind) (w : List ℕ) → IsToken k w → 1 ≤ length w
some_bytes k w h = not_empty w (token_some w (token_like k w h))

-- the tokens of the pieces after u
lie : (u : List ℕ) (p q : ℕ) (xs : List Piece) (rest text : List ℕ) → p ≡ length u → q ≤ p → StandAll xs rest → text ≡ u ++ text_of_all xs → LieInOrder text q (tokens_from p xs)
lie u p q [] rest text e le s j = tt
lie u p q (Blank c ∷ xs) rest text e le s j = lie (u ++ c ∷ []) (p + 1) q xs rest text (omega (arith, length-append u (c ∷ []))) (omega arith) s.1 (j ∙ sym (append_assoc u (c ∷ []) (text_of_all xs)))
lie u p q (Comment w ∷ xs) rest text e le s j =
    lie (u ++ 47 ∷ 47 ∷ w) (p + length (47 ∷ 47 ∷ w)) q xs rest text (omega (arith, length-append u (47 ∷ 47 ∷ w))) (omega arith) s.1 (j ∙ sym (append_assoc u (47 ∷ 47 ∷ w) (text_of_all xs)))
lie u p q (Lexeme k w ∷ xs) rest text e le s j = (
  record {
    after = le;
    some = omega (arith, some_bytes k w s.0.0);
    within = omega (arith, ap length j, length-append u (w ++ text_of_all xs), length-append w (text_of_all xs));
    is = subst (IsToken k) (sym (ap (λ t. slice_range t p (p + length w)) j ∙ part u w (text_of_all xs) p (p + length w) e refl)) s.0.0;
  },
  lie (u ++ w) (p + length w) (p + length w) xs rest text (omega (arith, length-append u w)) (omega arith) s.1 (j ∙ sym (append_assoc u w (text_of_all xs))),
)

pub tokens_lie : (text : List ℕ) (ts : List Token) → HasTokens text ts → LieInOrder text 0 ts
tokens_lie text ts h = subst (LieInOrder text 0) (sym h.tokens) (lie [] 0 0 h.pieces [] text refl (omega arith) h.stand h.joined)

-- a text that is cut up to its end has its tokens, which lie in it
pub cut_lie : (text : List ℕ) (p : ℕ) (ts : List Token) → IsCutUpTo text p ts → length text ≤ p → LieInOrder text 0 ts
cut_lie text p ts k l =
    let e : drop p text ≡ [] = drop_of_length-le text l in
    tokens_lie text ts
    (record {
      pieces = k.pieces;
      joined = k.joined ∙ ap (λ w. text_of_all k.pieces ++ w) e ∙ append-nil (text_of_all k.pieces);
      stand = subst (StandAll k.pieces) e k.stand;
      tokens = k.tokens;
    })
