-- How a text is cut into pieces, some of which are tokens. Sources and Verilog files are cut so.
use Rattle.std.specs.Prelude.{◌≡◌, ℕ, ◌+◌, ◌≤◌, List, [], ◌∷◌, ◌++◌, length, Option, option_to_list}
use Rattle.std.specs.List.{flat_map}

-- the text of a piece, what may follow it, and the token that it is at a place, if it is one
module _ {P T : Type 0} (text_of : P → List ℕ) (StandsBefore : P → List ℕ → Type 0) (token_at : ℕ → P → Option T) where
  -- each piece may stand before what follows it
  abbrev pub StandAll : List P → List ℕ → Type 0
  StandAll [] rest = Unit {0}
  StandAll (x ∷ xs) rest = StandsBefore x (flat_map text_of xs ++ rest) × StandAll xs rest

  -- the tokens among some pieces. The first piece begins at this place
  abbrev pub tokens_from : ℕ → List P → List T
  tokens_from p [] = []
  tokens_from p (x ∷ xs) = option_to_list (token_at p x) ++ tokens_from (p + length (text_of x)) xs

  -- the text is cut into these pieces, and these are its tokens
  pub record IsCutInto (text : List ℕ) (ts : List T) : Type 0 where
    pub pieces : List P
    pub joined : text ≡ flat_map text_of pieces
    pub stand : StandAll pieces []
    pub tokens : ts ≡ tokens_from 0 pieces

  -- pieces come before the place, and none begins there
  pub record StopsAt (text : List ℕ) (place : ℕ) : Type 0 where
    pub pieces : List P
    pub rest : List ℕ
    pub joined : text ≡ flat_map text_of pieces ++ rest
    pub stand : StandAll pieces rest
    pub place_is : place ≡ length (flat_map text_of pieces)
    pub some : 1 ≤ length rest
    pub foreign : (x : P) (after : List ℕ) → rest ≡ text_of x ++ after → ¬ StandsBefore x after
