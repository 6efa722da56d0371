-- A function returns what a reader gives, unless memory runs out.
use Rattle.std.specs.Prelude.{◌≡◌, ℕ, List, Result, Ok, Err}
use Rattle.safl_grammar.specs.Syntax.{Rule, Deep, Unexpected, Range}
use Rattle.safl_grammar.specs.Reading.{Read}
use Rattle.safl_word.specs.declared.token.Token.{Token}
use Rattle.safl_tree.specs.Terminals.{Terminal, terminals}
use Rattle.safl_parse.specs.declared.error.Cause.{Cause}
use Rattle.safl_parse.specs.declared.error.Cause.TheVariants as causes
use Rattle.safl_parse.specs.declared.error.ReadError.{ReadError}
use Rattle.safl_parse.specs.declared.error.ReadError.TheVariants as errors

abbrev pub rule_of : Cause → Rule
rule_of causes.Deep = Deep
rule_of causes.Unexpected = Unexpected
rule_of causes.Range = Range

-- the error is the first fault that the reader gives: its rule, and the rest of the tokens there
abbrev pub Fails : {Y : Type 0} → List ℕ → ReadError → Read Terminal Y → Type 0
Fails text errors.NoMemory read = Unit {0}
Fails text (errors.Refused e rest) read = read ≡ Err (rule_of e, terminals text rest.now)

-- the result, seen by this view, is the value that the reader gives and the rest of the tokens
abbrev pub Gives : {X Y : Type 0} → List ℕ → (X → Y × List Token) → Result X ReadError → Read Terminal Y → Type 0
Gives text view (Ok x) read = read ≡ Ok ((view x).0, terminals text (view x).1)
Gives text view (Err e) read = Fails text e read
