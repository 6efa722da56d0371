-- Which netlist a Verilog file reads as, and its first fault.
use Rattle.std.specs.Prelude.{◌≡◌, ℕ, List, [], ◌∷◌, length}
use Rattle.std.specs.Option.{option_map_or}
use Rattle.safl_grammar.specs.Reading.{head_of}
use Rattle.safl_grammar.specs.Syntax.{Rule}
use Rattle.safl_grammar.specs.Text.{Spells, Faults}
use Rattle.safl_net.specs.Netlist.{Netlist}
use Rattle.safl_verilog.specs.declared.fault.VRule.TheVariants as rules
use Rattle.safl_verilog.specs.declared.fault.VFault.{VFault}
use Rattle.safl_verilog.specs.Tokens.{VerilogTerminal, HasVerilogTokens, HasVerilogLexicalFault}
use Rattle.safl_verilog.specs.Files.{File}
use Rattle.safl_verilog.specs.Grammar
use Rattle.safl_verilog.specs.Faults.{at, faults}
use Rattle.safl_verilog.specs.Netlists.{netlist}

-- the text is a file of the grammar that breaks no rule, and this is its netlist
pub record Reads (text : List ℕ) (n : Netlist) : Type 0 where
  pub tokens : List VerilogTerminal
  pub cut : HasVerilogTokens text tokens
  pub file : File
  pub derived : Spells (λ n. Grammar.file) tokens file
  pub kept : faults file ≡ []
  pub means : netlist file ≡ n

-- The first fault of the bytes; else of the tokens, at the first one with which they begin no file, or at the end; else of the file.
pub data HasFault (text : List ℕ) (f : VFault) : Type 0 where
  lexical : (place : ℕ) → HasVerilogLexicalFault text place → f ≡ at rules.V01 place → HasFault text f
  unexpected : (ts rest : List VerilogTerminal) (e : Rule) → HasVerilogTokens text ts → Faults (λ n. Grammar.file) ts e rest
      → f ≡ at rules.V02 (option_map_or (λ (t : VerilogTerminal). t.place) (head_of rest) (length text)) → HasFault text f
  broken : (ts : List VerilogTerminal) (x : File) (more : List VFault) → HasVerilogTokens text ts → Spells (λ n. Grammar.file) ts x → faults x ≡ f ∷ more → HasFault text f

-- ---- parts by name

-- the tokens are this file of the grammar
abbrev pub IsFile : List VerilogTerminal → File → Type 0
IsFile ts f = Spells (λ n. Grammar.file) ts f

abbrev pub place_in : List ℕ → List VerilogTerminal → ℕ
place_in text ts = option_map_or (λ (t : VerilogTerminal). t.place) (head_of ts) (length text)

abbrev pub HasUnexpected : List VerilogTerminal → Rule → List VerilogTerminal → Type 0
HasUnexpected ts e rest = Faults (λ n. Grammar.file) ts e rest
