-- The laws of reshaped programs.
use Rattle.std.specs.Prelude.{◌≡◌, ◌↔◌, ℕ, ◌+◌, List, false}
use Rattle.safl_word.specs.Words.{Word}
use Rattle.safl_term.specs.Program.{Program}
use Rattle.safl_term.specs.Meaning.{Main, main_cost}
use Rattle.safl_term.specs.WellFormed.{AreWordsOf}
use Rattle.safl_tree.specs.Tree.{Definition}
use Rattle.safl_tree.specs.Source.{SpellsProgram}
use Rattle.safl_tree.specs.Laws.{SpelledBy}
use Rattle.safl_tree.specs.Printable.{IsFormedProgram, AllKeepLevels, IsPrintable}
use Rattle.safl_tree.specs.Printed.{printed}
use Rattle.safl_tree.specs.Places.{unplaced_program}
use Rattle.safl_typing.specs.Forms.{Form, IsFormOf}
use Rattle.safl_check.specs.Numbered.{program_in}
use Rattle.safl_reshape.specs.Executions.{main_executions}
use Rattle.safl_reshape.specs.Reshaped.{unfolded, is_recursive, copied_under, IsCopyable}
use Rattle.safl_reshape.specs.Limits.{KeepsLimits, KeepsLists}

-- On words of its parameters' widths, main gives a word in B exactly if it gives it in C, in as many calls.
pub record IsAlike (C B : Program) : Type 0 where
  pub params : B.params B.main ≡ C.params C.main
  pub gives : (args : List Word) (v : Word) (d : Main C args v) → AreWordsOf args (C.params C.main) → (e : Main B args v) × (main_cost B args e ≡ main_cost C args d)
  pub only : (args : List Word) (v : Word) (e : Main B args v) → AreWordsOf args (C.params C.main) → (d : Main C args v) × (main_cost B args e ≡ main_cost C args d)

-- Main gives the same in B as in C, in one call less for each time that C makes the call of site k. A cost counts main: it is never 0.
pub record Spares (k : ℕ) (C B : Program) : Type 0 where
  pub params : B.params B.main ≡ C.params C.main
  pub gives : (args : List Word) (v : Word) (d : Main C args v) → AreWordsOf args (C.params C.main)
      → (e : Main B args v) × (main_cost B args e + main_executions C args d k ≡ main_cost C args d)
  pub only : (args : List Word) (v : Word) (e : Main B args v) → AreWordsOf args (C.params C.main)
      → (d : Main C args v) × (main_cost B args e + main_executions C args d k ≡ main_cost C args d)

-- ---- the two laws, on sources as trees

-- If the function that site k calls makes no call in its own group, and the program with the call unfolded keeps the limits, then
-- that program has a form. It gives the same, in one call less each time that the call was made.
abbrev pub UnfoldingSpares : Type 0
UnfoldingSpares = (ds : List Definition) (c : Form) (k : ℕ) → IsFormOf ds c → is_recursive ds ((program_in c).callee k) ≡ false → KeepsLimits (unfolded ds k)
    → (e : Form) × IsFormOf (unfolded ds k) e × Spares k (program_in c) (program_in e)

-- If function j, which site k calls, is a group of its own and not the last function, no function has the new name, and the
-- program with the copy keeps the limits, then that program has a form. It gives the same, in as many calls.
abbrev pub CopyIsAlike : Type 0
CopyIsAlike =
    (ds : List Definition) (c : Form) (k j : ℕ) (d : Definition) (new : List ℕ)
    → IsFormOf ds c → IsCopyable ds c k j d new → KeepsLimits (copied_under new ds k j d)
    → (e : Form) × IsFormOf (copied_under new ds k j d) e × IsAlike (program_in c) (program_in e)

-- Unfolding and copying never pass the limits on parameters and bindings.
abbrev pub ReshapedKeepsLists : Type 0
ReshapedKeepsLists = (ds : List Definition) (c : Form) (k : ℕ) → IsFormOf ds c
    → (is_recursive ds ((program_in c).callee k) ≡ false → KeepsLists (unfolded ds k))
    × ((j : ℕ) (d : Definition) (new : List ℕ) → IsCopyable ds c k j d new → KeepsLists (copied_under new ds k j d))

-- ---- places

-- Programs that differ only in places have the same form.
abbrev pub FormsHaveNoPlaces : Type 0
FormsHaveNoPlaces = (ds es : List Definition) (c : Form) → unplaced_program ds ≡ unplaced_program es → IsFormOf ds c → IsFormOf es c

-- The text of a printable program spells a program with the same form, which is the same program apart from places.
abbrev pub PrintedKeepsForm : Type 0
PrintedKeepsForm = (ds : List Definition) (c : Form) → IsPrintable ds → IsFormOf ds c
    → (es : List Definition) × SpellsProgram (printed ds) es × (unplaced_program es ≡ unplaced_program ds) × IsFormOf es c

-- A well formed program keeps the levels exactly if its text spells it, apart from places.
abbrev pub LevelsAreSpelled : Type 0
LevelsAreSpelled = (ds : List Definition) → IsFormedProgram ds → AllKeepLevels ds ↔ SpelledBy (printed ds) ds
