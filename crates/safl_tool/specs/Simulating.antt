-- What a run of a source's circuit gives.
use Rattle.std.specs.Prelude.{ℕ, ◌+◌, ◌*◌, ◌<◌, ◌≤◌, List, Option, IfSome}
use Rattle.safl_term.specs.Names.{Names}
use Rattle.safl_word.specs.Words.{Word}
use Rattle.safl_net.specs.Netlist.{Netlist}
use Rattle.safl_sim.specs.declared.done.Done.{Done}
use Rattle.safl_run.specs.Calls.{IsOutcome}
use Rattle.safl_term.specs.Program.{Program}
use Rattle.safl_term.specs.Meaning.{Main, main_cost, loops}
use Rattle.safl_circuit.specs.Correct.{latest}
use Rattle.safl_session.specs.Circuits.{IsMainReply}
use Rattle.safl_compiler.specs.Sources.{IsSourceOf}
use Rattle.safl_compiler.specs.Circuits.{IsCircuitOf}
use Rattle.safl_session.specs.Lines.{AreArguments}
use Rattle.safl_tool.specs.Arguments.{HaveFault}

-- The source spells a program, and the arguments are read as words for main's parameters. A netlist that is the program's circuit
-- has this outcome in its run with them, in which all inputs are 0 after cycle 0. A result is that of main, in time.
pub record Simulates (source : List ℕ) (args : List (List ℕ)) (limit : ℕ) (answer : Option Done) : Type 0 where
  pub program : Program
  pub names : Names
  pub net : Netlist
  pub words : List Word
  pub source_of : IsSourceOf source program names
  pub circuit : IsCircuitOf program names net
  pub read : AreArguments (program.params program.main) args words
  pub outcome : IsOutcome net words limit answer
  pub value : IfSome answer (IsMainReply program words)

-- the last cycle in which `done` may come is below the limit
abbrev pub InCycles : ℕ → (C : Program) (words : List Word) (v : Word) → Main C words v → Type 0
InCycles limit C words v d = latest C words d < limit

-- the limit is at least three events for each call, less two for each tail call
abbrev pub InEvents : ℕ → (C : Program) (words : List Word) (v : Word) → Main C words v → Type 0
InEvents limit C words v d = 3 * main_cost C words d ≤ limit + 2 * loops C d

-- the source spells a program, the arguments are read, and main gives a value for them by an evaluation that fits
abbrev pub Evaluates : List ℕ → List (List ℕ) → ((C : Program) (words : List Word) (v : Word) → Main C words v → Type 0) → Type 0
Evaluates source args Fits = (C : Program) × (D : Names) × IsSourceOf source C D
    × (words : List Word) × AreArguments (C.params C.main) args words × (v : Word) × (d : Main C words v) × Fits C words v d

-- ---- parts by name

-- the source spells a program, and the arguments do not fit main's parameters, as the line says
abbrev pub IsMisgiven : List ℕ → List (List ℕ) → List ℕ → Type 0
IsMisgiven source args line = (C : Program) × (D : Names) × IsSourceOf source C D × HaveFault (C.params C.main) args line

abbrev pub Limited : Type 1
Limited = (C : Program) (words : List Word) (v : Word) → Main C words v → Type 0
