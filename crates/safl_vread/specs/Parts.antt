-- The parts of a file, and its faults other than those on numbers and on names that are declared twice.
use Rattle.std.specs.Prelude.{ℕ, List, [], ◌++◌}
use Rattle.std.specs.List.{flat_map}
use Rattle.safl_verilog.specs.declared.fault.VFault.{VFault}
use Rattle.safl_verilog.specs.Files.{File}
use Rattle.safl_verilog.specs.Faults.{all_port_faults, all_statement_faults, missing_faults}
use Rattle.safl_vparse.specs.declared.file.Span.{Span}
use Rattle.safl_vparse.specs.declared.file.Declaration.{Declaration}
use Rattle.safl_vparse.specs.declared.file.Statement.{Statement}
use Rattle.safl_vparse.specs.Shown.{shown_spots, shown_declarations, shown_statements}

abbrev pub parts_at : List ℕ → List Span → List Declaration → List Statement → File
parts_at text hs ds ss = record { header = shown_spots text hs; declarations = shown_declarations text ds; statements = shown_statements text ss }

abbrev pub later_faults : File → List VFault
later_faults f = all_port_faults f ++ all_statement_faults f.declarations [] f.statements ++ flat_map (missing_faults f.statements) f.declarations
