-- A function returns what a reader gives, unless memory runs out.
use Rattle.std.specs.Prelude.{◌≡◌, ℕ, List, Result, Ok, Err}
use Rattle.safl_grammar.specs.Syntax.{Unexpected}
use Rattle.safl_grammar.specs.Reading.{Read}
use Rattle.safl_verilog.specs.declared.token.Token.{Token}
use Rattle.safl_verilog.specs.Tokens.{VerilogTerminal}
use Rattle.safl_vparse.specs.declared.parser.ReadError.{ReadError}
use Rattle.safl_vparse.specs.declared.parser.ReadError.TheVariants as errors
use Rattle.safl_vparse.specs.Shown.{shown_all}

-- the error is the first fault that the reader gives: the rest of the tokens there
abbrev pub Fails : {Y : Type 0} → List ℕ → ReadError → Read VerilogTerminal Y → Type 0
Fails text errors.NoMemory read = Unit {0}
Fails text (errors.Unexpected rest) read = read ≡ Err (Unexpected, shown_all text rest.now)

-- the result, seen by this view, is the value that the reader gives and the rest of the tokens
abbrev pub Gives : {X Y : Type 0} → List ℕ → (X → Y × List Token) → Result X ReadError → Read VerilogTerminal Y → Type 0
Gives text view (Ok x) read = read ≡ Ok ((view x).0, shown_all text (view x).1)
Gives text view (Err e) read = Fails text e read
