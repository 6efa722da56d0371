-- A program in numbers, without names.
use Rattle.std.specs.Prelude.{ℕ, List, length}
use Rattle.safl_term.specs.Terms.{Term}

-- Functions are numbered from 0 in the order of the text, sites from 1; site 0 is the call of main from outside. A unit is a group of
-- functions that tail-call one another, and has the number of its first. No function: unit 0, and a constant as its body.
pub record Program : Type 0 where
  pub functions : ℕ
  pub sites : ℕ
  pub main : ℕ
  -- of a function: its unit, and its body
  pub unit : ℕ → ℕ
  pub body : ℕ → Term
  -- of a function: the widths of its parameters, and that of its result
  pub params : ℕ → List ℕ
  pub result : ℕ → ℕ
  -- of a site: the function whose body has it, and the function that it calls
  pub caller : ℕ → ℕ
  pub callee : ℕ → ℕ

-- how many parameters a function has
abbrev pub arity : Program → ℕ → ℕ
arity C f = length (C.params f)

-- the unit that a site calls
abbrev pub unit_for : Program → ℕ → ℕ
unit_for C k = C.unit (C.callee k)
