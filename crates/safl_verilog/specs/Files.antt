-- Files as syntax trees: a header, declarations and statements.
use Rattle.std.specs.Prelude.{ℕ, List, Option}
use Rattle.safl_word.specs.declared.primitive.Primitive.{Primitive}
use Rattle.safl_verilog.specs.declared.token.Sort.{Sort}

-- a name or a number: its place and its bytes
pub record Spot : Type 0 where
  pub place : ℕ
  pub bytes : List ℕ

-- what a name is assigned
pub data RightSide : Type 0 where
  Literal : Spot → RightSide
  Plain : Spot → RightSide
  Inverted : Spot → RightSide
  Binary : Primitive → Spot → Spot → RightSide
  Choice : Spot → Spot → Spot → RightSide
  Joined : Spot → Spot → RightSide
  Slice : (operand high low : Spot) → RightSide

pub record Declaration : Type 0 where
  pub sort : Sort
  pub range : Option (Spot × Spot)
  pub name : Spot

-- an assignment, or the update of a register at the clock's edge
pub data Statement : Type 0 where
  Assign : Spot → RightSide → Statement
  Always : (clock reset target initial second source : Spot) → Statement

pub record File : Type 0 where
  pub header : List Spot
  pub declarations : List Declaration
  pub statements : List Statement
