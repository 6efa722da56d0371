-- The laws of sources.
use Rattle.std.specs.Prelude.{◌≡◌, ℕ, List, ◌⊎◌}
use Rattle.safl_word.specs.declared.fault.Fault.{Fault}
use Rattle.safl_term.specs.Program.{Program}
use Rattle.safl_term.specs.Names.{Names}
use Rattle.safl_compiler.specs.Sources.{IsSourceOf, HasFirstFault}

-- a source spells at most one program, with its names
abbrev pub OneProgram : Type 0
OneProgram = (source : List ℕ) (C B : Program) (D E : Names) → IsSourceOf source C D → IsSourceOf source B E → (C ≡ B) × (D ≡ E)

abbrev pub ProgramOrFault : Type 0
ProgramOrFault = (source : List ℕ) → ((C : Program) × (D : Names) × IsSourceOf source C D) ⊎ ((f : Fault) × HasFirstFault source f)

abbrev pub NotBoth : Type 0
NotBoth = (source : List ℕ) (C : Program) (D : Names) (f : Fault) → IsSourceOf source C D → HasFirstFault source f → ⊥

abbrev pub OneFault : Type 0
OneFault = (source : List ℕ) (f g : Fault) → HasFirstFault source f → HasFirstFault source g → f ≡ g
