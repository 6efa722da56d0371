-- Pieces of a text.
use Rattle.std.specs.Prelude.{◌≡◌, ℕ, ◌<◌, ◌⊎◌, List, [], ◌∷◌, ◌++◌, length, true, not, ◌==◌, All}
use Rattle.std.specs.List.{list_all, join_with_byte}

-- the pieces of a text between the bytes c
pub record AreBetween (c : ℕ) (text : List ℕ) (pieces : List (List ℕ)) : Type 0 where
  pub apart : All (λ (piece : List ℕ). list_all (λ x. not (x == c)) piece ≡ true) pieces
  pub some : 0 < length pieces
  pub joined : text ≡ join_with_byte c pieces

-- the pieces that are not empty
abbrev pub some_of : List (List ℕ) → List (List ℕ)
some_of [] = []
some_of ([] ∷ pieces) = some_of pieces
some_of ((x ∷ xs) ∷ pieces) = (x ∷ xs) ∷ some_of pieces

-- the pieces without the last one, if that is empty
abbrev pub ended_of : List (List ℕ) → List (List ℕ)
ended_of ([] ∷ q ∷ pieces) = [] ∷ ended_of (q ∷ pieces)
ended_of ((x ∷ xs) ∷ pieces) = (x ∷ xs) ∷ ended_of pieces
ended_of _ = []

-- the words of a line: those pieces between its spaces that are not empty
abbrev pub HasWords : List ℕ → List (List ℕ) → Type 0
HasWords line words = (pieces : List (List ℕ)) × AreBetween 32 line pieces × (words ≡ some_of pieces)

-- the lines of a text: the pieces between its line feeds, without an empty last one
abbrev pub HasLines : List ℕ → List (List ℕ) → Type 0
HasLines text lines = (pieces : List (List ℕ)) × AreBetween 10 text pieces × (lines ≡ ended_of pieces)

abbrev pub Lacks : ℕ → List ℕ → Type 0
Lacks c text = list_all (λ x. not (x == c)) text ≡ true

-- the piece before the first byte c and what follows that byte; or all of the text and nothing, if there is no such byte
pub record IsCut (c : ℕ) (text piece behind : List ℕ) : Type 0 where
  pub lacks : Lacks c piece
  pub is : (text ≡ piece ++ c ∷ behind) ⊎ ((text ≡ piece) × (behind ≡ []))

-- the text has only spaces
abbrev pub Blank : List ℕ → Type 0
Blank text = list_all (λ c. c == 32) text ≡ true

-- the text is spaces, a first word, and what follows the space after it
pub record StartsWith (text word behind : List ℕ) : Type 0 where
  pub spaces : List ℕ
  pub rest : List ℕ
  pub blank : Blank spaces
  pub is : text ≡ spaces ++ rest
  pub cut : IsCut 32 rest word behind
  pub some : 0 < length word
