-- Graphs of ANDs, and how they grow.
use Rattle.std.specs.Prelude.{◌≡◌, ℕ, ◌+◌, ◌*◌, ◌/◌, ◌<◌, ◌≤◌, List, ◌++◌, length, All, Bool, not, ◌&&◌, cond, false}
use Rattle.safl_word.specs.Limits.{variables_max}
use Rattle.safl_aiger.specs.declared.literal.Lit.{Lit}
use Rattle.safl_aiger.specs.Literals.{Assignment, on}
use Rattle.safl_aiger.specs.Circuits.{AreBelow}
use Rattle.safl_aiger.specs.Runs.{Wired}

-- a graph of ANDs, the first of which has the variable `first`
pub record Gates : Type 0 where
  pub first : ℕ
  pub ands : List (Lit × Lit)

-- the number of variables, including variable 0
abbrev pub count : Gates → ℕ
count g = g.first + length g.ands

pub record IsGates (g : Gates) : Type 0 where
  pub some : 1 ≤ g.first
  pub few : count g ≤ variables_max
  pub below : AreBelow g.first g.ands

-- the literal belongs to a variable of the graph
abbrev pub IsLiteral : Gates → Lit → Type 0
IsLiteral g l = l.0 < 2 * count g

abbrev pub AreLiterals : Gates → List Lit → Type 0
AreLiterals g ls = All (IsLiteral g) ls

-- the graph has room for this many more ANDs: their numbers have 31 bits
abbrev pub HasRoom : Gates → ℕ → Type 0
HasRoom g most = count g + most ≤ variables_max

-- the new graph has all ANDs of the old one, and at most this many more
pub record Grows (old new : Gates) (most : ℕ) : Type 0 where
  pub first : new.first ≡ old.first
  pub more : List (Lit × Lit)
  pub is : new.ands ≡ old.ands ++ more
  pub some : length old.ands ≤ length new.ands
  pub few : length new.ands ≤ length old.ands + most

-- variable 0 is false, and each AND has the conjunction of its operands
abbrev pub Holds : Gates → Assignment → Type 0
Holds g m = Wired g.first g.ands m

-- the literal is the negation of the other
pub record Inverts (a l : Lit) : Type 0 where
  pub value : (m : Assignment) → on m l ≡ not (on m a)
  pub variable : l.0 / 2 ≡ a.0 / 2

-- given that variable 0 is false, the literal is the conjunction of the other two
pub record Folds (a b l : Lit) : Type 0 where
  pub value : (m : Assignment) → m 0 ≡ false → on m l ≡ (on m a && on m b)
  pub known : (n : ℕ) → a.0 < 2 * n → b.0 < 2 * n → l.0 < 2 * n

-- whether exactly one is true
abbrev pub differ : Bool → Bool → Bool
differ a b = cond a (not b) b
