-- Which program a source spells, and its first fault.
use Rattle.std.specs.Prelude.{◌≡◌, ℕ, ◌≤◌, List, Some}
use Rattle.safl_word.specs.declared.fault.Fault.{Fault}
use Rattle.safl_tree.specs.Tree.{Definition}
use Rattle.safl_tree.specs.Source.{SpellsProgram, SyntaxFault}
use Rattle.safl_term.specs.Program.{Program}
use Rattle.safl_typing.specs.Forms.{Form, IsFormOf}
use Rattle.safl_word.specs.Limits.{sites_max}
use Rattle.safl_typing.specs.FirstFault.{first_fault}
use Rattle.safl_typing.specs.declared.typed.CheckErr.{CheckErr}
use Rattle.safl_typing.specs.declared.typed.CheckErr.TheVariants as errors
use Rattle.safl_check.specs.Numbered.{program_in, names_in}
use Rattle.safl_term.specs.Names.{Names}

-- The source spells definitions whose numbered form is this program, with these names.
pub record IsSourceOf (source : List ℕ) (C : Program) (D : Names) : Type 0 where
  pub definitions : List Definition
  pub spelled : SpellsProgram source definitions
  pub form : Form
  pub is : IsFormOf definitions form
  pub program : C ≡ program_in form
  pub names : D ≡ names_in form

-- the first fault of a source: of its tokens and its grammar, or else of the program that it spells
pub data HasFirstFault (source : List ℕ) (f : Fault) : Type 0 where
  syntax_fault : SyntaxFault source f → HasFirstFault source f
  check_fault : (ds : List Definition) → SpellsProgram source ds → first_fault ds ≡ Some f → HasFirstFault source f

-- The error is the first fault of the source, or out of memory. No source is too deep.
abbrev pub RefusesSource : List ℕ → CheckErr → Type 0
RefusesSource source (errors.Refused f) = HasFirstFault source f
RefusesSource source errors.TooDeep = ⊥
RefusesSource source errors.NoMemory = Unit {0}

-- the definitions have no more call sites than a program may have
abbrev pub HasFewSites : List Definition → Type 0
HasFewSites ds = (c : Form) → IsFormOf ds c → (program_in c).sites ≤ sites_max
