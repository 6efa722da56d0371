-- A function of the parser returns what a reader gives for the tokens.
use Rattle.std.specs.Prelude.{List, Option, Result, Vec}
use Rattle.std.specs.Global.{Global}
use Rattle.std.specs.Borrow.{Bor}
use Rattle.safl_word.specs.declared.primitive.Primitive.{Primitive}
use Rattle.safl_grammar.specs.Reading.{Reading}
use Rattle.safl_verilog.specs.declared.token.Sort.{Sort}
use Rattle.safl_verilog.specs.declared.token.Token.{Token}
use Rattle.safl_verilog.specs.Tokens.{VerilogTerminal}
use Rattle.safl_verilog.specs.Files
use Rattle.safl_verilog.specs.Files.{Spot}
use Rattle.safl_verilog.specs.Reader.{read_otherwise}
use Rattle.safl_vparse.specs.declared.file.Span.{Span}
use Rattle.safl_vparse.specs.declared.file.Range.{Range}
use Rattle.safl_vparse.specs.declared.file.Expression.{Expression}
use Rattle.safl_vparse.specs.declared.file.Declaration.{Declaration}
use Rattle.safl_vparse.specs.declared.file.Statement.{Statement}
use Rattle.safl_vparse.specs.declared.file.File.{File}
use Rattle.safl_vparse.specs.declared.parser.Parser.{Parser}
use Rattle.safl_vparse.specs.declared.parser.ReadError.{ReadError}
use Rattle.safl_vparse.specs.Shown.{shown_all, shown_spot, shown_spots, shown_expression, shown_range, shown_declaration, shown_declarations, shown_statement, shown_statements, shown_file}
use Rattle.safl_vparse.specs.Gives.{Gives}

-- the name or number that a span of the parsed text shows
abbrev pub spot_in : Parser → Span → Spot
spot_in p s = shown_spot p.text.now s

-- the reader of what follows the assignment at reset, with these names and this number before it
abbrev pub otherwise_in : Parser → (clock reset target initial : Span) → Reading VerilogTerminal Files.Statement
otherwise_in p clock reset target initial = read_otherwise (spot_in p clock) (spot_in p reset) (spot_in p target) (spot_in p initial)

-- what a function of the parser returns: the value and the rest of the tokens, or why they cannot be read
abbrev pub Returned : Type 0 → Type 0
Returned X = Result (X × Bor (List Token)) ReadError

-- the result, seen by this view, is the value that the reader gives and the rest of the tokens
abbrev pub Reads : {X Y : Type 0} → Parser → List Token → (X → Y × List Token) → Result X ReadError → Reading VerilogTerminal Y → Type 0
Reads p ts view result reading = Gives p.text.now view result (reading (shown_all p.text.now ts))

-- a single token is read, and its span shows what the reader gives
abbrev pub ReadsSpot : Parser → List Token → Returned Span → Reading VerilogTerminal Spot → Type 0
ReadsSpot p ts result reading = Reads p ts (λ x. (spot_in p x.0, x.1.now)) result reading

abbrev pub ReadsOperator : Parser → List Token → Returned Primitive → Reading VerilogTerminal Primitive → Type 0
ReadsOperator p ts result reading = Reads p ts (λ x. (x.0, x.1.now)) result reading

-- the keyword of a declaration is read
abbrev pub ReadsSort : Parser → List Token → Returned Sort → Reading VerilogTerminal Sort → Type 0
ReadsSort p ts result reading = Reads p ts (λ x. (x.0, x.1.now)) result reading

abbrev pub ReadsExpression : Parser → List Token → Returned Expression → Reading VerilogTerminal Files.RightSide → Type 0
ReadsExpression p ts result reading = Reads p ts (λ x. (shown_expression p.text.now x.0, x.1.now)) result reading

-- a range is read, if there is one
abbrev pub ReadsRange : Parser → List Token → Returned (Option Range) → Reading VerilogTerminal (Option (Spot × Spot)) → Type 0
ReadsRange p ts result reading = Reads p ts (λ x. (shown_range p.text.now x.0, x.1.now)) result reading

abbrev pub ReadsDeclaration : Parser → List Token → Returned Declaration → Reading VerilogTerminal Files.Declaration → Type 0
ReadsDeclaration p ts result reading = Reads p ts (λ x. (shown_declaration p.text.now x.0, x.1.now)) result reading

abbrev pub ReadsStatement : Parser → List Token → Returned Statement → Reading VerilogTerminal Files.Statement → Type 0
ReadsStatement p ts result reading = Reads p ts (λ x. (shown_statement p.text.now x.0, x.1.now)) result reading

abbrev pub ReadsNames : Parser → List Token → Returned (Vec Span Global) → Reading VerilogTerminal (List Spot) → Type 0
ReadsNames p ts result reading = Reads p ts (λ x. (shown_spots p.text.now x.0.items, x.1.now)) result reading

abbrev pub ReadsDeclarations : Parser → List Token → Returned (Vec Declaration Global) → Reading VerilogTerminal (List Files.Declaration) → Type 0
ReadsDeclarations p ts result reading = Reads p ts (λ x. (shown_declarations p.text.now x.0.items, x.1.now)) result reading

abbrev pub ReadsStatements : Parser → List Token → Returned (Vec Statement Global) → Reading VerilogTerminal (List Files.Statement) → Type 0
ReadsStatements p ts result reading = Reads p ts (λ x. (shown_statements p.text.now x.0.items, x.1.now)) result reading

abbrev pub ReadsFile : Parser → List Token → Returned File → Reading VerilogTerminal Files.File → Type 0
ReadsFile p ts result reading = Reads p ts (λ x. (shown_file p.text.now x.0, x.1.now)) result reading
