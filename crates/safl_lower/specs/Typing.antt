-- What a term is in the body of a function.
use Rattle.std.specs.Prelude.{ℕ, ◌≤◌, List, [], ◌∷◌, ◌++◌, Bool, true, false, ◌||◌}
use Rattle.safl_term.specs.Program.{Program}
use Rattle.safl_term.specs.Terms.{Term, Const, Var, Op, If, Let, Call, Loop, Terms, Nil, Cons}
use Rattle.safl_term.specs.WellFormed.{Spans, SpansAll, HasWidth, HaveWidths}

-- a function of a program, and the sites of its body, which are numbered from `first` up to `last`
pub record Owner : Type 0 where
  pub program : Program
  pub function : ℕ
  pub first : ℕ
  pub last : ℕ

-- In the owner's body, in tail position or not: the sites of the term are in the order of the text, and the term has this width
-- if the slots have these.
pub record Typed (F : Owner) (tail : Bool) (slots : List ℕ) (t : Term) (w : ℕ) : Type 0 where
  pub low : ℕ
  pub high : ℕ
  pub from : F.first ≤ low
  pub upto : high ≤ F.last
  pub spans : Spans F.program F.function tail low high t
  pub width : HasWidth F.program slots t w

pub record TypedAll (F : Owner) (slots : List ℕ) (ts : Terms) (ws : List ℕ) : Type 0 where
  pub low : ℕ
  pub high : ℕ
  pub from : F.first ≤ low
  pub upto : high ≤ F.last
  pub spans : SpansAll F.program F.function low high ts
  pub widths : HaveWidths F.program slots ts ws

abbrev mutual
  -- the sites of a term, the site of each call after those of its arguments
  pub sites_of : Term → List ℕ
  sites_of (Const w) = []
  sites_of (Var i) = []
  sites_of (Op p ts) = sites_in ts
  sites_of (If c a b) = sites_of c ++ (sites_of a ++ sites_of b)
  sites_of (Let bs b) = sites_in bs ++ sites_of b
  sites_of (Call f k ts) = sites_in ts ++ k ∷ []
  sites_of (Loop h ts) = sites_in ts

  pub sites_in : Terms → List ℕ
  sites_in Nil = []
  sites_in (Cons t ts) = sites_of t ++ sites_in ts

-- the functions to which the tail calls of a term go
abbrev pub tails_of : Term → List ℕ
tails_of (Const w) = []
tails_of (Var i) = []
tails_of (Op p ts) = []
tails_of (If c a b) = tails_of a ++ tails_of b
tails_of (Let bs b) = tails_of b
tails_of (Call f k ts) = []
tails_of (Loop h ts) = h ∷ []

abbrev mutual
  -- whether the term contains a call or a tail call
  pub holds_calls : Term → Bool
  holds_calls (Const w) = false
  holds_calls (Var i) = false
  holds_calls (Op p ts) = hold_calls ts
  holds_calls (If c a b) = holds_calls c || holds_calls a || holds_calls b
  holds_calls (Let bs b) = hold_calls bs || holds_calls b
  holds_calls (Call f k ts) = true
  holds_calls (Loop h ts) = true

  pub hold_calls : Terms → Bool
  hold_calls Nil = false
  hold_calls (Cons t ts) = holds_calls t || hold_calls ts
