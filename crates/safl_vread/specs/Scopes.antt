-- The declarations of a scope, and what its text shows.
use Rattle.std.specs.Prelude.{◌≡◌, List, [], Option, None, Some, slice_get}
use Rattle.safl_verilog.specs.Files
use Rattle.safl_verilog.specs.Files.{Spot, Declaration, File}
use Rattle.safl_verilog.specs.Faults.{is_signal, range_width}
use Rattle.safl_vparse.specs.declared.file.Span.{Span}
use Rattle.safl_vparse.specs.declared.file.Expression.{Expression}
use Rattle.safl_vparse.specs.declared.file.Statement.{Statement}
use Rattle.safl_vparse.specs.Shown.{shown_spot, shown_spots, shown_expression, shown_declarations, shown_statement, shown_statements}
use Rattle.safl_vread.specs.declared.scope.Item.{Item}
use Rattle.safl_vread.specs.declared.scope.Scope.{Scope}

abbrev pub declared_in : Scope → List Declaration
declared_in s = shown_declarations s.text.now s.declarations.now

-- the name or number that a span of the scope's text shows
abbrev pub spot_in : Scope → Span → Spot
spot_in s x = shown_spot s.text.now x

-- the names or numbers that spans of the scope's text show
abbrev pub spots_in : Scope → List Span → List Spot
spots_in s xs = shown_spots s.text.now xs

-- the expression of the scope's text
abbrev pub expression_in : Scope → Expression → Files.RightSide
expression_in s e = shown_expression s.text.now e

-- the statement of the scope's text
abbrev pub statement_in : Scope → Statement → Files.Statement
statement_in s x = shown_statement s.text.now x

-- the statements of the scope's text
abbrev pub statements_in : Scope → List Statement → List Files.Statement
statements_in s xs = shown_statements s.text.now xs

abbrev pub without_statements : List Spot → List Declaration → File
without_statements hs ds = record { header = hs; declarations = ds; statements = [] }

-- the file with a header and the declarations of a scope, without statements
abbrev pub file_in : Scope → List Span → File
file_in s header = without_statements (spots_in s header) (declared_in s)

-- an item shows a declaration, which is at the item's place
pub record ShowsDeclaration (ds : List Declaration) (d : Declaration) (item : Item) : Type 0 where
  pub place : slice_get ds item.place ≡ Some d
  pub sort : item.sort ≡ d.sort
  pub width : item.width ≡ range_width d.range
  pub signal : item.signal ≡ is_signal d

abbrev pub Describes : List Declaration → Option Declaration → Option Item → Type 0
Describes ds None None = Unit {0}
Describes ds (Some d) (Some item) = ShowsDeclaration ds d item
Describes ds None (Some item) = ⊥
Describes ds (Some d) None = ⊥
