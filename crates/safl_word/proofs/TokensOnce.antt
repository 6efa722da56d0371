-- A text has its tokens, or its first lexical fault, and either once.
use Rattle.std.proofs.Common.{◌≡◌, ◌↔◌, ℕ, zero, suc, ◌≤◌, List, [], ◌∷◌, ◌++◌, length, refl, sym, ◌∙◌, ap, subst, arith, append_assoc, length-append}
use Rattle.std.proofs.lemmas.List.{append-nil}
use Rattle.safl_word.specs.Tokens.{Piece, Blank, Comment, Lexeme, text_of, text_of_all, StandsBefore, tokens_from, HasTokens, IsBrokenAt, HasLexicalFault}
use Rattle.safl_word.specs.Breaks.{BreaksAt}
use Rattle.safl_word.specs.declared.token.Token.{Token}
use Rattle.safl_word.specs.declared.fault.Rule.{Rule}
use Rattle.safl_word.proofs.Cuts.{no_piece, none_at_end, cuts_agree, broken_agree, fault_of_break, token_some}
use Rattle.safl_word.proofs.OneKind.{token_like}
use Rattle.safl_word.proofs.Next.{Next, goes_on, breaks}
use Rattle.safl_word.proofs.Fronts.{next}
use Rattle.safl_word.proofs.Lists.{not_empty}

pub tokens_once : (text : List ℕ) (ts us : List Token) → HasTokens text ts → HasTokens text us → ts ≡ us
tokens_once text ts us a b =
    let j : text_of_all a.pieces ++ [] ≡ text_of_all b.pieces ++ [] = append-nil _ ∙ sym a.joined ∙ b.joined ∙ sym (append-nil _) in
    let r = cuts_agree a.pieces b.pieces [] [] a.stand b.stand none_at_end none_at_end j in
    a.tokens ∙ ap (tokens_from 0) r.0 ∙ sym b.tokens

pub fault_once : (text : List ℕ) (e d : Rule) (p q : ℕ) → HasLexicalFault text e p → HasLexicalFault text d q → (e ≡ d) × (p ≡ q)
fault_once text e d p q (a, i) (b, j) =
    let r = cuts_agree a.pieces b.pieces a.rest b.rest a.stand b.stand (no_piece a.rest a.foreign) (no_piece b.rest b.foreign) (sym a.joined ∙ b.joined) in
    (broken_agree e d b.rest (subst (IsBrokenAt e) r.1 i) j, a.place_is ∙ ap (λ xs. length (text_of_all xs)) r.0 ∙ sym b.place_is)

pub not_both : (text : List ℕ) (ts : List Token) (e : Rule) (p : ℕ) → HasTokens text ts → HasLexicalFault text e p → ⊥
not_both text ts e p a (b, j) =
    let r = cuts_agree a.pieces b.pieces [] b.rest a.stand b.stand none_at_end (no_piece b.rest b.foreign) (append-nil _ ∙ sym a.joined ∙ b.joined) in
    omega (arith, ap length r.1, b.some)

-- what a text has
pub data Outcome (text : List ℕ) : Type 0 where
  tokens_of : (ts : List Token) → HasTokens text ts → Outcome text
  fault_of : (e : Rule) (p : ℕ) → BreaksAt text e p → Outcome text

prepend : (text : List ℕ) (x : Piece) (rest : List ℕ) → text ≡ text_of x ++ rest → StandsBefore x rest → Outcome rest → Outcome text
prepend text x rest j s (tokens_of ts h) =
    tokens_of (tokens_from 0 (x ∷ h.pieces))
    (record {
      pieces = x ∷ h.pieces;
      joined = j ∙ ap (λ w. text_of x ++ w) h.joined;
      stand = (subst (StandsBefore x) (h.joined ∙ sym (append-nil _)) s, h.stand);
      tokens = refl;
    })
prepend text x rest j s (fault_of e p h) =
    fault_of e (length (text_of_all (x ∷ h.pieces)))
    (record {
      pieces = x ∷ h.pieces;
      rest = h.rest;
      joined = j ∙ ap (λ w. text_of x ++ w) h.joined ∙ sym (append_assoc (text_of x) (text_of_all h.pieces) h.rest);
      stand = (subst (StandsBefore x) h.joined s, h.stand);
      place_is = refl;
      broken = h.broken;
    })

go_on : (text : List ℕ) → Next text → ((x : Piece) (rest : List ℕ) → text ≡ text_of x ++ rest → StandsBefore x rest → Outcome rest) → Outcome text
go_on text (goes_on x rest j s) f = prepend text x rest j s (f x rest j s)
go_on text (breaks e b) f = fault_of e 0 (record { pieces = []; rest = text; joined = refl; stand = tt; place_is = refl; broken = b })

at_end : Outcome []
at_end = tokens_of [] (record { pieces = []; joined = refl; stand = tt; tokens = refl })

-- a piece has a byte
piece_some : (x : Piece) (rest : List ℕ) → StandsBefore x rest → 1 ≤ length (text_of x)
piece_some (Blank c) rest s = omega arith
piece_some (Comment w) rest s = omega arith
piece_some (Lexeme k w) rest s = not_empty w (token_some w (token_like k w s.0))

outcome_within : (n : ℕ) (text : List ℕ) → length text ≤ n → Outcome text
outcome_within n [] l = at_end
outcome_within zero (c ∷ w) l = absurd (omega arith)
outcome_within (suc n) (c ∷ w) l =
    go_on (c ∷ w) (next c w)
    (λ x rest j s. outcome_within n rest (omega (arith, ap length j, length-append (text_of x) rest, piece_some x rest s)))

pub outcome : (text : List ℕ) → Outcome text
outcome text = outcome_within (length text) text (omega arith)

pub tokens_or_fault : (text : List ℕ) → ((ts : List Token) × HasTokens text ts) ↔ (¬ ((e : Rule) × (p : ℕ) × HasLexicalFault text e p))
tokens_or_fault text = (λ (ts, h) (e, p, k). not_both text ts e p h k, λ f. by_outcome f (outcome text))
  where
    by_outcome : ¬ ((e : Rule) × (p : ℕ) × HasLexicalFault text e p) → Outcome text → (ts : List Token) × HasTokens text ts
    by_outcome f (tokens_of ts h) = (ts, h)
    by_outcome f (fault_of e p h) = absurd (f (e, p, fault_of_break text e p h))

-- a lexical fault in full: what begins at its place is foreign, or it is too long
pub break_of_fault : (text : List ℕ) (e : Rule) (p : ℕ) → HasLexicalFault text e p → BreaksAt text e p
break_of_fault text e p h = by_outcome (outcome text)
  where
    by_outcome : Outcome text → BreaksAt text e p
    by_outcome (tokens_of ts t) = absurd (not_both text ts e p t h)
    by_outcome (fault_of d q b) =
        let same = fault_once text d e q p (fault_of_break text d q b) h in
        subst (λ (r : Rule). BreaksAt text r p) same.0 (subst (BreaksAt text d) same.1 b)

pub fault_in_full : (text : List ℕ) (e : Rule) (p : ℕ) → HasLexicalFault text e p ↔ BreaksAt text e p
fault_in_full text e p = (break_of_fault text e p, fault_of_break text e p)
