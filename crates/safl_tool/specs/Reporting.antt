-- What is printed of a source's plan, and of generated sources.
use Rattle.std.specs.Prelude.{◌≡◌, ℕ, ◌%◌, ◌++◌, List, [], ◌∷◌, decimal, Option, true}
use Rattle.safl_gen.specs.Draws.{draw}
use Rattle.safl_gen.specs.Source as made
use Rattle.safl_net.specs.Netlist.{Netlist}
use Rattle.safl_sim.specs.declared.done.Done.{Done}
use Rattle.safl_term.specs.Names.{Names}
use Rattle.safl_term.specs.Program.{Program}
use Rattle.safl_report.specs.Report.{IsReport, IsSummary}
use Rattle.safl_compiler.specs.Sources.{IsSourceOf}
use Rattle.safl_compiler.specs.Circuits.{IsCircuitOf}
use Rattle.safl_tool.specs.Printed.{program_lines}
use Rattle.safl_tool.specs.Simulating.{Simulates}
use Rattle.safl_task.specs.Tasks.{Given, only_prints}

-- the text is the report of a program and of a netlist that is its circuit
pub record Reports (C : Program) (D : Names) (text : List ℕ) : Type 0 where
  pub net : Netlist
  pub circuit : IsCircuitOf C D net
  pub report : IsReport C D net text

-- what `report` gives for a source
abbrev pub GivesReport : List ℕ → Given → Type 0
GivesReport source g = (C : Program) × (D : Names) × (text : List ℕ) × IsSourceOf source C D × Reports C D text × (g ≡ only_prints true text)

-- ---- generated sources

-- the source of this many functions from a seed
abbrev pub made_source : ℕ → ℕ → List ℕ
made_source seed count = made.source_text (draw seed) count

-- the arguments with which the circuit of a generated source is run
abbrev pub made_args : ℕ → ℕ → List (List ℕ)
made_args seed count = decimal (seed % 65536) ∷ decimal count ∷ []

-- the numbers of the program, and the summary of its plan and of the netlist
pub record HasHead (C : Program) (n : Netlist) (head : List ℕ) : Type 0 where
  pub summary : List ℕ
  pub is_summary : IsSummary C n summary
  pub is : head ≡ program_lines C.functions C.sites ++ summary

-- what a run of the program's circuit with these arguments shows, after the numbers of the program and of its plan
pub record Measures (source : List ℕ) (args : List (List ℕ)) (limit : ℕ) (head : List ℕ) (answer : Option Done) : Type 0 where
  pub simulates : Simulates source args limit answer
  pub begins : HasHead simulates.program simulates.net head
