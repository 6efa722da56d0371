-- Pieces of a line, one after another.
use Rattle.std.proofs.Common.{◌≡◌, ◌++◌, List, ℕ, ap, ◌∙◌, append_assoc}

-- a piece with its number
pub numbered : (old new piece number : List ℕ) → new ≡ (old ++ piece) ++ number → new ≡ old ++ (piece ++ number)
numbered old new piece number e = e ∙ append_assoc old piece number

-- a further piece, with its number and without one
pub then_numbered : (old mid new start piece number : List ℕ) → mid ≡ old ++ start → new ≡ (mid ++ piece) ++ number → new ≡ old ++ ((start ++ piece) ++ number)
then_numbered old mid new start piece number first second =
    second ∙ ap (λ (l : List ℕ). (l ++ piece) ++ number) first ∙ ap (λ (l : List ℕ). l ++ number) (append_assoc old start piece) ∙ append_assoc old (start ++ piece) number

pub then_piece : (old mid new start piece : List ℕ) → mid ≡ old ++ start → new ≡ mid ++ piece → new ≡ old ++ (start ++ piece)
then_piece old mid new start piece first second = second ∙ ap (λ (l : List ℕ). l ++ piece) first ∙ append_assoc old start piece
