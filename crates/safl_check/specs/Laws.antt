-- The laws of numbered forms.
use Rattle.std.specs.Prelude.{◌≡◌}
use Rattle.safl_term.specs.Checked.{CheckedProgram}
use Rattle.safl_typing.specs.Forms.{shown_form}
use Rattle.safl_check.specs.Numbered.{program_in, names_in}

-- the two programs are the same in numbers, and have the same names
pub record IsSameProgram (c d : CheckedProgram) : Type 0 where
  pub program : c.program ≡ d.program
  pub names : c.names ≡ d.names

abbrev pub FormsTellPrograms : Type 0
FormsTellPrograms = (c d : CheckedProgram) → shown_form c ≡ shown_form d → IsSameProgram c d

-- a checked program is, in numbers, the program of its form, and has the same names
pub record IsNumbered (c : CheckedProgram) : Type 0 where
  pub program : c.program ≡ program_in (shown_form c)
  pub names : c.names ≡ names_in (shown_form c)

abbrev pub FormsAreNumbered : Type 0
FormsAreNumbered = (c : CheckedProgram) → IsNumbered c
