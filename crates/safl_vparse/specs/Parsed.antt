-- The answers of parsing a text.
use Rattle.std.specs.Prelude.{◌≡◌, ℕ, List, Result, Ok, Err}
use Rattle.safl_grammar.specs.Syntax.{Rule}
use Rattle.safl_verilog.specs.declared.fault.VRule.TheVariants as rules
use Rattle.safl_verilog.specs.declared.fault.VFault.{VFault}
use Rattle.safl_verilog.specs.Tokens.{VerilogTerminal, HasVerilogTokens, HasVerilogLexicalFault}
use Rattle.safl_verilog.specs.Files
use Rattle.safl_verilog.specs.Faults.{at}
use Rattle.safl_verilog.specs.Reads.{IsFile, HasUnexpected, place_in, HasFault}
use Rattle.safl_vparse.specs.declared.error.VErr.{VErr}
use Rattle.safl_vparse.specs.declared.error.VErr.TheVariants as errors
use Rattle.safl_vparse.specs.declared.file.File.{File}
use Rattle.safl_vparse.specs.Shown.{shown_file}

-- the text is cut into tokens, and these are this file
pub record IsFileText (text : List ℕ) (f : Files.File) : Type 0 where
  pub tokens : List VerilogTerminal
  pub cut : HasVerilogTokens text tokens
  pub derived : IsFile tokens f

-- the error is the first fault of the text, or out of memory
abbrev pub RefusesText : List ℕ → VErr → Type 0
RefusesText text (errors.Refused f) = HasFault text f
RefusesText text errors.NoMemory = Unit {0}

-- the first fault of the bytes, V01, or otherwise of the tokens, V02
pub data IsUnparsed (text : List ℕ) (f : VFault) : Type 0 where
  misspelled : HasVerilogLexicalFault text f.place → f ≡ at rules.V01 f.place → IsUnparsed text f
  ungrammatical : (ts rest : List VerilogTerminal) (e : Rule) → HasVerilogTokens text ts → HasUnexpected ts e rest → f ≡ at rules.V02 (place_in text rest) → IsUnparsed text f

-- The text is no file of the grammar, and the error is its V01 or V02, or out of memory.
abbrev pub RefusesUnparsed : List ℕ → VErr → Type 0
RefusesUnparsed text (errors.Refused f) = IsUnparsed text f
RefusesUnparsed text errors.NoMemory = Unit {0}

-- the result is the file that the tokens are, or V02 at the first unexpected token, or out of memory
abbrev pub TokensAnswer : List ℕ → List VerilogTerminal → Result File VErr → Type 0
TokensAnswer text ts (Ok f) = IsFile ts (shown_file text f)
TokensAnswer text ts (Err (errors.Refused f)) = (e : Rule) × (rest : List VerilogTerminal) × HasUnexpected ts e rest × (f ≡ at rules.V02 (place_in text rest))
TokensAnswer text ts (Err errors.NoMemory) = Unit {0}
