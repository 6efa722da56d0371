-- The modes that the code keeps, as modes of the definitions.
use Rattle.std.specs.Prelude.{ℕ, List, [], get_or}
use Rattle.safl_word.specs.Words.{Word}
use Rattle.safl_term.specs.Checked.{CheckedProgram}
use Rattle.safl_term.specs.Program.{unit_for}
use Rattle.safl_calls.specs.Machine as machine
use Rattle.safl_core.specs.declared.mode.Mode.{Mode}
use Rattle.safl_core.specs.declared.mode.Act.{Act}
use Rattle.safl_core.specs.declared.mode.Act.TheVariants.{Idle, Runs, Delivers}
use Rattle.safl_evaluate.specs.declared.stage.Stage.{Stage}
use Rattle.safl_evaluate.specs.Stages.{stage_at}

-- the mode of a unit that does this, where these are the words of a function that it runs
abbrev pub mode_with : List Word → Act → machine.Mode
mode_with ws Idle = machine.Idle
mode_with ws (Runs f k) = machine.Runs f k ws
mode_with ws (Delivers k v) = machine.Delivers k v

abbrev pub mode_of : Mode → machine.Mode
mode_of m = mode_with m.args m.act

abbrev pub idle_mode : Mode
idle_mode = record { act = Idle; args = [] }

-- the mode of a unit. A unit that does not exist is idle
abbrev pub unit_at : List Mode → ℕ → machine.Mode
unit_at modes u = mode_of (get_or modes u idle_mode)

-- the mode of the unit that a site calls
abbrev pub unit_at_site : CheckedProgram → List Mode → ℕ → machine.Mode
unit_at_site c modes k = unit_at modes (unit_for c.program k)

abbrev pub state_of : List Mode → List Stage → machine.State
state_of modes sites = record { unit = unit_at modes; site = stage_at sites }
