-- The laws of the grammar and of printed texts.
use Rattle.std.specs.Prelude.{◌≡◌, ℕ, ◌≤◌, List, ◌⊎◌}
use Rattle.std.specs.List.{AllByRecursion}
use Rattle.safl_word.specs.declared.fault.Fault.{Fault}
use Rattle.safl_tree.specs.Tree.{Definition, depth}
use Rattle.safl_tree.specs.Source.{SpellsProgram, SyntaxFault}
use Rattle.safl_tree.specs.Printable.{IsPrintable}
use Rattle.safl_tree.specs.Printed.{printed}
use Rattle.safl_tree.specs.Places.{unplaced_program}

-- a text spells at most one program
abbrev pub OneProgram : Type 0
OneProgram = (text : List ℕ) (p q : List Definition) → SpellsProgram text p → SpellsProgram text q → p ≡ q

-- a text has a first fault exactly if it spells no program, and at most one
abbrev pub ProgramOrFault : Type 0
ProgramOrFault = (text : List ℕ) → ((p : List Definition) × SpellsProgram text p) ⊎ ((f : Fault) × SyntaxFault text f)

abbrev pub NotBoth : Type 0
NotBoth = (text : List ℕ) (p : List Definition) (f : Fault) → SpellsProgram text p → SyntaxFault text f → ⊥

abbrev pub OneFault : Type 0
OneFault = (text : List ℕ) (f g : Fault) → SyntaxFault text f → SyntaxFault text g → f ≡ g

-- a program that a text spells can be printed
abbrev pub SpelledIsPrintable : Type 0
SpelledIsPrintable = (text : List ℕ) (p : List Definition) → SpellsProgram text p → IsPrintable p

-- the text spells a program that is this one, apart from places
abbrev pub SpelledBy : List ℕ → List Definition → Type 0
SpelledBy text p = (q : List Definition) × SpellsProgram text q × (unplaced_program q ≡ unplaced_program p)

-- the text of a printable program spells that program, apart from places
abbrev pub PrintedSpells : Type 0
PrintedSpells = (p : List Definition) → IsPrintable p → SpelledBy (printed p) p

-- no body of a program that a text spells is more than 1,100 deep
abbrev pub SourcesAreShallow : Type 0
SourcesAreShallow = (text : List ℕ) (p : List Definition) → SpellsProgram text p → AllByRecursion (λ d. depth d.body ≤ 1100) p
