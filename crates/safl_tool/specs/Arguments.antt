-- Arguments of main, as words of the command line.
use Rattle.std.specs.Prelude.{◌≡◌, ℕ, ◌+◌, ◌⊎◌, List, length}
use Rattle.safl_session.specs.Lines.{HaveMisfit}
use Rattle.safl_tool.specs.Lines.{count_line, argument_line}
use Rattle.safl_task.specs.declared.status.Status.{Status}
use Rattle.safl_task.specs.declared.status.Status.TheVariants as status

-- The arguments do not fit parameters of these widths, and the line says why: more or fewer, or else the first that does not fit.
abbrev pub HaveFault : List ℕ → List (List ℕ) → List ℕ → Type 0
HaveFault widths args line =
    ((¬ (length args ≡ length widths)) × (line ≡ count_line (length widths) (length args)))
    ⊎ ((m : HaveMisfit widths args) × (line ≡ argument_line (m.index + 1) m.width))

-- the status and the line of arguments that do not fit parameters of these widths
abbrev pub RefusesArguments : List ℕ → List (List ℕ) → Status → List ℕ → Type 0
RefusesArguments widths args s line = (s ≡ status.BadArgs) × HaveFault widths args line
