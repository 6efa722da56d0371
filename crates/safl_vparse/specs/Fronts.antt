-- What a text begins with.
use Rattle.std.specs.Prelude.{◌≡◌, ℕ, ◌+◌, List, ◌++◌, length, drop, Option, Some, None}
use Rattle.safl_verilog.specs.declared.token.Token.{Token}
use Rattle.safl_verilog.specs.declared.fault.VRule.TheVariants as rules
use Rattle.safl_verilog.specs.Tokens.{VerilogPiece, Blank, Line, Block, Lexeme, text_of_all, StandAll, tokens_from, HasVerilogLexicalFault}
use Rattle.safl_verilog.specs.Faults.{at}
use Rattle.safl_vparse.specs.declared.error.VErr.{VErr}
use Rattle.safl_vparse.specs.declared.error.VErr.TheVariants as errors
use Rattle.safl_vparse.specs.declared.front.Front.{Front}
use Rattle.safl_vparse.specs.declared.front.Front.TheVariants as fronts
use Rattle.safl_vparse.specs.Shown.{shown_all}

-- a piece by its length, or that there is none
abbrev pub measured : Option VerilogPiece → Front
measured None = fronts.Stuck
measured (Some (Blank c)) = fronts.Gap 1
measured (Some (Line w)) = fronts.Gap (2 + length w)
measured (Some (Block w)) = fronts.Gap (length w + 4)
measured (Some (Lexeme k w)) = fronts.Found k (length w)

-- the bytes up to place p are cut into pieces, and these are their tokens
pub record IsCutUpTo (text : List ℕ) (p : ℕ) (ts : List Token) : Type 0 where
  pub pieces : List VerilogPiece
  pub joined : text ≡ text_of_all pieces ++ drop p text
  pub stand : StandAll pieces (drop p text)
  pub place : p ≡ length (text_of_all pieces)
  pub tokens : shown_all text ts ≡ tokens_from 0 pieces

-- the error is V01 at the first place where no piece begins, or out of memory
abbrev pub RefusesBytes : List ℕ → VErr → Type 0
RefusesBytes text (errors.Refused f) = HasVerilogLexicalFault text f.place × (f ≡ at rules.V01 f.place)
RefusesBytes text errors.NoMemory = Unit {0}
