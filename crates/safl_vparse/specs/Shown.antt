-- The tokens and files of a text, as plain values.
use Rattle.std.specs.Prelude.{ℕ, ◌-◌, List, map, take, drop, Option, Some, None}
use Rattle.safl_verilog.specs.declared.token.Token.{Token}
use Rattle.safl_verilog.specs.Tokens.{VerilogTerminal}
use Rattle.safl_verilog.specs.Files
use Rattle.safl_verilog.specs.Files.{Spot}
use Rattle.safl_vparse.specs.declared.file.Span.{Span}
use Rattle.safl_vparse.specs.declared.file.Range.{Range}
use Rattle.safl_vparse.specs.declared.file.Expression.{Expression}
use Rattle.safl_vparse.specs.declared.file.Expression.TheVariants as parsed
use Rattle.safl_vparse.specs.declared.file.Declaration.{Declaration}
use Rattle.safl_vparse.specs.declared.file.Statement.{Statement}
use Rattle.safl_vparse.specs.declared.file.Statement.TheVariants as stated
use Rattle.safl_vparse.specs.declared.file.File.{File}

-- a token of a text, with its bytes: those from its start to its stop
abbrev pub shown_token : List ℕ → Token → VerilogTerminal
shown_token text t = record { place = t.start; kind = t.kind; bytes = take (t.stop - t.start) (drop t.start text) }

abbrev pub shown_all : List ℕ → List Token → List VerilogTerminal
shown_all text ts = map (shown_token text) ts

abbrev pub shown_spot : List ℕ → Span → Spot
shown_spot text s = record { place = s.start; bytes = take (s.stop - s.start) (drop s.start text) }

abbrev pub shown_spots : List ℕ → List Span → List Spot
shown_spots text xs = map (shown_spot text) xs

abbrev pub shown_expression : List ℕ → Expression → Files.RightSide
shown_expression text (parsed.Literal l) = Files.Literal (shown_spot text l)
shown_expression text (parsed.Plain a) = Files.Plain (shown_spot text a)
shown_expression text (parsed.Inverted a) = Files.Inverted (shown_spot text a)
shown_expression text (parsed.Binary p a b) = Files.Binary p (shown_spot text a) (shown_spot text b)
shown_expression text (parsed.Choice a b c) = Files.Choice (shown_spot text a) (shown_spot text b) (shown_spot text c)
shown_expression text (parsed.Joined a b) = Files.Joined (shown_spot text a) (shown_spot text b)
shown_expression text (parsed.Slice a high low) = Files.Slice (shown_spot text a) (shown_spot text high) (shown_spot text low)

abbrev pub shown_range : List ℕ → Option Range → Option (Spot × Spot)
shown_range text None = None
shown_range text (Some r) = Some (shown_spot text r.high, shown_spot text r.low)

abbrev pub shown_declaration : List ℕ → Declaration → Files.Declaration
shown_declaration text d = record { sort = d.sort; range = shown_range text d.range; name = shown_spot text d.name }

abbrev pub shown_declarations : List ℕ → List Declaration → List Files.Declaration
shown_declarations text ds = map (shown_declaration text) ds

abbrev pub shown_statement : List ℕ → Statement → Files.Statement
shown_statement text (stated.Assign x e) = Files.Assign (shown_spot text x) (shown_expression text e)
shown_statement text (stated.Always u) =
    Files.Always (shown_spot text u.clock) (shown_spot text u.reset) (shown_spot text u.target)
    (shown_spot text u.initial) (shown_spot text u.second) (shown_spot text u.source)

abbrev pub shown_statements : List ℕ → List Statement → List Files.Statement
shown_statements text ss = map (shown_statement text) ss

abbrev pub shown_file : List ℕ → File → Files.File
shown_file text f =
    record {
      header = shown_spots text f.header.items;
      declarations = shown_declarations text f.declarations.items;
      statements = shown_statements text f.statements.items;
    }
