-- The terms within a well-formed body, and where they are.
use Rattle.std.specs.Prelude.{◌≡◌, ℕ, suc, ◌≤◌, List, length, Bool}
use Rattle.safl_term.specs.Program.{Program}
use Rattle.safl_term.specs.Terms.{Term, Terms, Nil, Cons}
use Rattle.safl_term.specs.WellFormed.{Spans, SpansAll, HasWidth, HaveWidths}

-- how many terms these are
abbrev pub terms_in : Terms → ℕ
terms_in Nil = 0
terms_in (Cons t ts) = suc (terms_in ts)

-- the term is part of the body of g, with this many slots in scope
pub record IsPart (C : Program) (g slots : ℕ) (t : Term) : Type 0 where
  pub tail : Bool
  pub lo : ℕ
  pub hi : ℕ
  pub spans : Spans C g tail lo hi t
  pub least : 1 ≤ lo
  pub most : hi ≤ suc C.sites
  pub scope : List ℕ
  pub count : length scope ≡ slots
  pub width : ℕ
  pub typed : HasWidth C scope t width

-- the terms are parallel parts of the body of g, with this many slots in scope
pub record ArePart (C : Program) (g slots : ℕ) (ts : Terms) : Type 0 where
  pub lo : ℕ
  pub hi : ℕ
  pub spans : SpansAll C g lo hi ts
  pub least : 1 ≤ lo
  pub most : hi ≤ suc C.sites
  pub scope : List ℕ
  pub count : length scope ≡ slots
  pub widths : List ℕ
  pub typed : HaveWidths C scope ts widths
