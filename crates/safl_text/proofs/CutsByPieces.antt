-- A cut goes on by a piece.
use Rattle.std.proofs.Common.{◌≡◌, ◌≢◌, ℕ, ◌+◌, ◌<◌, ◌≤◌, List, [], ◌∷◌, ◌++◌, length, take, drop, refl, sym, ◌∙◌, ap, subst, arith, append_assoc, length-append, length-drop, zero-add}
use Rattle.std.proofs.lemmas.List.{take-append-drop, length-take-le, append-nil, drop-drop}
use Rattle.safl_word.specs.Tokens.{Piece, Blank, Comment, Lexeme, text_of, text_of_all, StandsBefore, StandAll, tokens_from}
use Rattle.safl_word.specs.declared.token.Token.{Token}
use Rattle.safl_word.specs.declared.token.TokenKind.{TokenKind}
use Rattle.safl_word.proofs.OneKind.{token_like}
use Rattle.safl_word.proofs.Cuts.{token_some}
use Rattle.safl_text.specs.Fronts.{HasPiece, IsGap, IsCutUpTo}

pub text_append : (xs ys : List Piece) → text_of_all (xs ++ ys) ≡ text_of_all xs ++ text_of_all ys
text_append [] ys = refl
text_append (x ∷ xs) ys = ap (λ w. text_of x ++ w) (text_append xs ys) ∙ sym (append_assoc (text_of x) (text_of_all xs) (text_of_all ys))

pub one_more : (xs : List Piece) (x : Piece) (rest : List ℕ) → text_of_all (xs ++ x ∷ []) ++ rest ≡ text_of_all xs ++ (text_of x ++ rest)
one_more xs x rest =
    ap (λ w. w ++ rest) (text_append xs (x ∷ []) ∙ ap (λ w. text_of_all xs ++ w) (append-nil (text_of x))) ∙ append_assoc (text_of_all xs) (text_of x) rest

pub stand_more : (xs : List Piece) (x : Piece) (rest : List ℕ) → StandAll xs (text_of x ++ rest) → StandsBefore x rest → StandAll (xs ++ x ∷ []) rest
stand_more [] x rest a s = (s, tt)
stand_more (y ∷ ys) x rest a s = (subst (StandsBefore y) (sym (one_more ys x rest)) a.0, stand_more ys x rest a.1 s)

length_more : (p : ℕ) (u v : List ℕ) → p + length (u ++ v) ≡ p + length u + length v
length_more p u v = omega (arith, length-append u v)

pub tokens_append : (p : ℕ) (xs ys : List Piece) → tokens_from p (xs ++ ys) ≡ tokens_from p xs ++ tokens_from (p + length (text_of_all xs)) ys
tokens_append p [] ys = ap (λ q. tokens_from q ys) (omega arith)
tokens_append p (Blank c ∷ xs) ys = tokens_append (p + 1) xs ys ∙ ap (λ q. tokens_from (p + 1) xs ++ tokens_from q ys) (omega arith)
tokens_append p (Comment w ∷ xs) ys =
    tokens_append (p + length (47 ∷ 47 ∷ w)) xs ys ∙ ap (λ q. tokens_from (p + length (47 ∷ 47 ∷ w)) xs ++ tokens_from q ys) (sym (length_more p (47 ∷ 47 ∷ w) (text_of_all xs)))
tokens_append p (Lexeme k w ∷ xs) ys =
    ap (λ ts. record { start = p; stop = p + length w; kind = k } ∷ ts)
    (tokens_append (p + length w) xs ys ∙ ap (λ q. tokens_from (p + length w) xs ++ tokens_from q ys) (sym (length_more p w (text_of_all xs))))

pub cut_more : (text : List ℕ) (p n : ℕ) (ts : List Token) (x : Piece) → IsCutUpTo text p ts → HasPiece (drop p text) n x → IsCutUpTo text (p + n) (ts ++ tokens_from p (x ∷ []))
cut_more text p n ts x k h =
    let d : drop n (drop p text) ≡ drop (p + n) text = drop-drop n p text ∙ ap (λ q. drop q text) (omega arith) in
    let e : drop p text ≡ text_of x ++ drop (p + n) text = sym (take-append-drop n (drop p text)) ∙ (λ i. sym h.is i ++ d i) in
    record {
      pieces = k.pieces ++ x ∷ [];
      joined = k.joined ∙ ap (λ w. text_of_all k.pieces ++ w) e ∙ sym (one_more k.pieces x (drop (p + n) text));
      stand = stand_more k.pieces x (drop (p + n) text) (subst (StandAll k.pieces) e k.stand) (subst (StandsBefore x) d h.stands);
      place =
          omega (
            arith,
            k.place,
            ap length (text_append k.pieces (x ∷ [])),
            length-append (text_of_all k.pieces) (text_of x ++ []),
            ap length (append-nil (text_of x)),
            ap length h.is,
            length-take-le n (drop p text) h.within,
          );
      tokens = (λ i. k.tokens i ++ tokens_from (k.place i) (x ∷ [])) ∙ ap (λ q. tokens_from 0 k.pieces ++ tokens_from q (x ∷ []))
          (sym (zero-add (length (text_of_all k.pieces)))) ∙ sym (tokens_append 0 k.pieces (x ∷ []));
    }

gap_none : (p : ℕ) (x : Piece) → IsGap x → tokens_from p (x ∷ []) ≡ []
gap_none p (Blank c) g = refl
gap_none p (Comment w) g = refl
gap_none p (Lexeme k w) g = absurd g

pub gap_more : (text : List ℕ) (p n : ℕ) (ts : List Token) (x : Piece) → IsCutUpTo text p ts → HasPiece (drop p text) n x → IsGap x → IsCutUpTo text (p + n) ts
gap_more text p n ts x k h g = subst (IsCutUpTo text (p + n)) (ap (λ us. ts ++ us) (gap_none p x g) ∙ append-nil ts) (cut_more text p n ts x k h)

pub found_more : (text : List ℕ) (p n : ℕ) (ts : List Token) (kind : TokenKind) → IsCutUpTo text p ts → HasPiece (drop p text) n (Lexeme kind (take n (drop p text)))
    → IsCutUpTo text (p + n) (ts ++ record { start = p; stop = p + n; kind = kind } ∷ [])
found_more text p n ts kind k h =
    let l : length (take n (drop p text)) ≡ n = length-take-le n (drop p text) h.within in
    subst (λ m. IsCutUpTo text (p + n) (ts ++ record { start = p; stop = p + m; kind = kind } ∷ [])) l (cut_more text p n ts (Lexeme kind (take n (drop p text))) k h)

-- a piece has a byte
pub piece_some : (text : List ℕ) (n : ℕ) (x : Piece) → HasPiece text n x → 1 ≤ n
piece_some text n (Blank c) h = omega (arith, ap length h.is, length-take-le n text h.within)
piece_some text n (Comment w) h = omega (arith, ap length h.is, length-take-le n text h.within)
piece_some text n (Lexeme k w) h = some w (token_some w (token_like k w h.stands.0)) (ap length h.is ∙ length-take-le n text h.within)
  where
    some : (w : List ℕ) → w ≢ [] → length w ≡ n → 1 ≤ n
    some [] f e = absurd (f refl)
    some (c ∷ w) f e = omega arith

-- a blank or a comment more
pub goes_over : (source rest : List ℕ) (p n : ℕ) (ts : List Token) → rest ≡ drop p source → p < length source → IsCutUpTo source p ts → (x : Piece) × HasPiece rest n x × IsGap x
    → (p + n ≤ length source) × IsCutUpTo source (p + n) ts × (1 ≤ n)
goes_over source rest p n ts e lt k (x, h, g) =
    let h' = subst (λ w. HasPiece w n x) e h in
    (omega (arith, h'.within, length-drop p source), gap_more source p n ts x k h' g, piece_some (drop p source) n x h')

-- a token more
pub takes : (source rest : List ℕ) (p n : ℕ) (ts us : List Token) (kind : TokenKind) → rest ≡ drop p source → p < length source → IsCutUpTo source p ts
    → HasPiece rest n (Lexeme kind (take n rest)) → us ≡ ts ++ record { start = p; stop = p + n; kind = kind } ∷ []
    → (p + n ≤ length source) × IsCutUpTo source (p + n) us × (1 ≤ n)
takes source rest p n ts us kind e lt k h q =
    let h' = subst (λ w. HasPiece w n (Lexeme kind (take n w))) e h in
    (omega (arith, h'.within, length-drop p source), subst (IsCutUpTo source (p + n)) (sym q) (found_more source p n ts kind k h'), piece_some (drop p source) n _ h')
